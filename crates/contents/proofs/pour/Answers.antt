use Rattle.std.proofs.Common.{rules}
use Rattle.contents.proofs.Laws.Turns.{pour_first, pour_ready, pour_stays, pour_end, pour_less, pour_again}
use Rattle.contents.proofs.pour.Goals as goal

pub loop-run-init : goal.loop-run-init
loop-run-init c = search pour_first

pub next_run-requires : goal.next_run-requires
next_run-requires c = search (rules, pour_ready)

pub copy_part-requires-clause-n_in_bounds : goal.copy_part-requires-clause-n_in_bounds
copy_part-requires-clause-n_in_bounds c = pour_stays c.loop-run.invariant c.in-Some.ensures

pub copy_part-requires-clause-n_in_bounds_2 : goal.copy_part-requires-clause-n_in_bounds_2
copy_part-requires-clause-n_in_bounds_2 c = pour_end c.loop-run.invariant c.in-Some.ensures

pub loop-run-smaller : goal.loop-run-smaller
loop-run-smaller c = pour_less c.loop-run.invariant c.in-Some.ensures

pub loop-run-preserved : goal.loop-run-preserved
loop-run-preserved c = pour_again c.loop-run.invariant c.in-Some.ensures (search rules) c.copy_part.ensures
