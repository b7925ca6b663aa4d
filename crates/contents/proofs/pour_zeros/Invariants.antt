-- The zeros done so far are put, and the cluster at hand holds the next one.
use Rattle.std.proofs.Common.{◌-◌, replicate}
use Rattle.contents.specs.Aids.Loops.{Pouring}
use Rattle.contents.proofs.pour_zeros.Given as goal

abbrev pub invariant-loop-run : goal.invariant-loop-run
invariant-loop-run l = Pouring l.base l.cb l.last l.initial.img l.start l.pos (replicate l.n 0) l.n l.img l.runs

abbrev pub decreases-loop-run : goal.decreases-loop-run
decreases-loop-run l = l.n - l.runs.done
