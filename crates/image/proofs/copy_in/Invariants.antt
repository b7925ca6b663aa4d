-- What is left of the source, stored from here on, gives the whole.
use Rattle.std.proofs.Common.{◌+◌, ◌≡◌, drop}
use Rattle.image.specs.Store.{stored}
use Rattle.image.proofs.copy_in.Given as goal

abbrev pub invariant-loop-i : goal.invariant-loop-i
invariant-loop-i l = stored l.s (l.at + l.i) (drop l.i l.src) ≡ stored l.initial.s l.at l.src
