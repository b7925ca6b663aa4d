use Rattle.std.proofs.Common.{rules}
use Rattle.contents.proofs.Laws.Turns.{fetch_first, fetch_ready, fetch_fits, fetch_stays, fetch_less, fetch_again}
use Rattle.contents.proofs.fetch.Goals as goal

pub loop-run-init : goal.loop-run-init
loop-run-init c = search fetch_first

pub next_run-requires : goal.next_run-requires
next_run-requires c = search (rules, fetch_ready)

pub copy_part-requires-clause-n_in_bounds : goal.copy_part-requires-clause-n_in_bounds
copy_part-requires-clause-n_in_bounds c = fetch_fits c.loop-run.invariant c.in-Some.ensures c.requires.n_in_bounds_2

pub copy_part-requires-clause-n_in_bounds_2 : goal.copy_part-requires-clause-n_in_bounds_2
copy_part-requires-clause-n_in_bounds_2 c = fetch_stays c.loop-run.invariant c.in-Some.ensures

pub loop-run-smaller : goal.loop-run-smaller
loop-run-smaller c = fetch_less c.loop-run.invariant c.in-Some.ensures

pub loop-run-preserved : goal.loop-run-preserved
loop-run-preserved c = fetch_again c.loop-run.invariant c.in-Some.ensures c.copy_part.ensures
