-- The bytes done so far are put, and the cluster at hand holds the next one.
use Rattle.std.proofs.Common.{◌-◌, length}
use Rattle.contents.specs.Aids.Loops.{Pouring}
use Rattle.contents.proofs.pour.Given as goal

abbrev pub invariant-loop-run : goal.invariant-loop-run
invariant-loop-run l = Pouring l.base l.cb l.last l.initial.img l.start l.pos l.src (length l.src) l.img l.runs

abbrev pub decreases-loop-run : goal.decreases-loop-run
decreases-loop-run l = length l.src - l.runs.done
