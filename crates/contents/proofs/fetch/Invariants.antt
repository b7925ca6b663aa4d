-- The bytes done so far stand in the buffer, and the cluster at hand holds the next one.
use Rattle.std.proofs.Common.{◌-◌}
use Rattle.contents.specs.Aids.Loops.{Fetching}
use Rattle.contents.proofs.fetch.Given as goal

abbrev pub invariant-loop-run : goal.invariant-loop-run
invariant-loop-run l = Fetching l.base l.cb l.last l.img l.start l.pos l.initial.out l.n l.out l.runs

abbrev pub decreases-loop-run : goal.decreases-loop-run
decreases-loop-run l = l.n - l.runs.done
