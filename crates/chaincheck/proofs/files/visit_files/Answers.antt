use Rattle.std.proofs.Common.{◌≡◌, Some, None, Ok, Err, arith, rules}
use Rattle.chaincheck.proofs.Laws.FileTurns.{files_begin, files_done, files_bad, files_skip, files_add, held_fits}
use Rattle.std.proofs.lemmas.Result.{err_from_is_err_and}
use Rattle.chaincheck.proofs.files.visit_files.Goals as goal
use Rattle.chaincheck.proofs.files.visit_files.Goals.{in-Some, in_default}

pub loop-s-init : goal.loop-s-init
loop-s-init c = search (rules, files_begin)

pub returns-in_err-n : goal.returns-in_err-n
returns-in_err-n c =
    let p = err_from_is_err_and c.from_residual.result c.from_residual.ensures.1 in
    let e : c.visit_slot-visited.result ≡ Err (record {}) = grind arith in
    let z : c.in_err-n.field-0.0 ≡ c.loop-s.s-counter = grind arith in
    rw (p.1, p.2, z) (search files_bad)

pub overflow_add-held : goal.overflow_add-held
overflow_add-held c =
    let e : c.visit_slot-visited.result ≡ Ok (Some c.in-Some.n) = grind arith in
    search held_fits

pub loop-s-preserved : goal.loop-s-preserved
loop-s-preserved c = elim c.match-branch-2.branch [
  | in-Some w ↦
      let e : c.visit_slot-visited.result ≡ Ok (Some w.in-Some.n) = grind arith in
      search (rules, files_add)
  | in_default w ↦
      let e : c.visit_slot-visited.result ≡ Ok None = grind arith in
      search (rules, files_skip)
]

pub returns : goal.returns
returns c = search files_done
