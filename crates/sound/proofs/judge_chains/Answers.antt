-- The visit of all files decides finding 5, and its marks the rest.
use Rattle.std.proofs.Common.{◌≡◌, Ok, arith, rules}
use Rattle.std.proofs.lemmas.Result.{err_from_is_err_and}
use Rattle.walks.proofs.Laws.Tails.{tails_begin}
use Rattle.sound.specs.declared.Finding.TheVariants.{WrongChain}
use Rattle.sound.proofs.Laws.Judged.{error_said, visited_bad, visited_good}
use Rattle.sound.proofs.judge_chains.Goals as goal

pub visit_files-visited-requires-clause-tails : goal.visit_files-visited-requires-clause-tails
visit_files-visited-requires-clause-tails c = tails_begin _ _ (search rules)

pub returns-in_err-chains : goal.returns-in_err-chains
returns-in_err-chains c =
    let p = err_from_is_err_and c.from_residual.result c.from_residual.ensures.1 in
    let q = error_said WrongChain _ _ c.map_err.ensures.cases _ c.in_err-chains.was in
    rw (p.1, p.2, q.2) (search visited_bad)

pub returns : goal.returns
returns c =
    let e : c.visit_files-visited.result ≡ Ok c.in_ok-chains.chains = grind arith in
    search visited_good
