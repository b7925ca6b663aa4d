-- What was counted, with the count from here on, is the whole count, and each cluster so far has a value.
use Rattle.std.proofs.Common.{◌+◌, ◌-◌}
use Rattle.tablecheck.specs.Aids.Values.{Met}
use Rattle.tablecheck.proofs.take_census.Given as goal

abbrev pub invariant-loop-c : goal.invariant-loop-c
invariant-loop-c l = Met l.last l.img l.tally l.c

abbrev pub decreases-loop-c : goal.decreases-loop-c
decreases-loop-c l = l.last + 1 - l.c
