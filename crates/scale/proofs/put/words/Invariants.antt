-- What is left of the words, put from here on, gives the whole.
use Rattle.std.proofs.Common.{◌*◌, ◌≡◌, drop}
use Rattle.image.specs.Store.{stored}
use Rattle.scale.specs.Out.{words}
use Rattle.scale.proofs.put.words.Given as goal

abbrev pub invariant-loop-i : goal.invariant-loop-i
invariant-loop-i l = stored l.out (4 * l.i) (words (drop l.i l.numbers)) ≡ stored l.initial.out 0 (words l.numbers)
