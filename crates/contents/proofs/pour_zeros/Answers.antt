use Rattle.std.proofs.Common.{ℕ, rules}
use Rattle.std.proofs.lemmas.List.{length-replicate}
use Rattle.contents.proofs.Laws.Turns.{pour_first, pour_ready, pour_stays, pour_end, pour_less, pour_again, zeros_part}
use Rattle.contents.proofs.pour_zeros.Goals as goal

pub loop-run-init : goal.loop-run-init
loop-run-init c = search pour_first

pub next_run-requires : goal.next_run-requires
next_run-requires c = search (rules, pour_ready)

pub fill-requires : goal.fill-requires
fill-requires c = pour_stays c.loop-run.invariant c.in-Some.ensures

pub loop-run-smaller : goal.loop-run-smaller
loop-run-smaller c = pour_less c.loop-run.invariant c.in-Some.ensures

pub loop-run-preserved : goal.loop-run-preserved
loop-run-preserved c = pour_again c.loop-run.invariant c.in-Some.ensures (search (rules, length-replicate {A = ℕ})) (zeros_part _ _ _ _ _ _ c.fill.ensures (pour_end c.loop-run.invariant c.in-Some.ensures))
