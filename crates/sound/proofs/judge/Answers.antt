-- Each search decides one finding, in the order of the definition.
use Rattle.std.proofs.Common.{◌≡◌, Ok, arith}
use Rattle.std.proofs.lemmas.Result.{err_from_is_err_and}
use Rattle.sound.specs.declared.Finding.TheVariants.{BadValue}
use Rattle.sound.proofs.Laws.Judged.{error_said, judged_tables, judged_values, judged_slots, judged_chains}
use Rattle.sound.proofs.judge.Goals as goal

pub returns-in-Some : goal.returns-in-Some
returns-in-Some c = search judged_tables

pub returns-in_err-tally : goal.returns-in_err-tally
returns-in_err-tally c =
    let p = err_from_is_err_and c.from_residual.result c.from_residual.ensures.1 in
    let q = error_said BadValue _ _ c.map_err.ensures.cases _ c.in_err-tally.was in
    rw (p.1, p.2, q.2) (search judged_values)

pub returns-in-Some-first_bad : goal.returns-in-Some-first_bad
returns-in-Some-first_bad c =
    let e : c.take_census-census.result ≡ Ok c.in_ok-tally.tally = grind arith in
    search judged_slots

pub returns : goal.returns
returns c =
    let e : c.take_census-census.result ≡ Ok c.in_ok-tally.tally = grind arith in
    search judged_chains
