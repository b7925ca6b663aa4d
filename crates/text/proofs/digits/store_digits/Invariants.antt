-- The rest's digits, stored before those that stand there, give the whole.
use Rattle.std.proofs.Common.{◌≡◌}
use lib.ListN.{length}
use Rattle.image.specs.Store.{stored}
use Rattle.text.specs.Digits.{in_digits}
use Rattle.text.proofs.digits.store_digits.Given as goal

abbrev pub invariant-loop-i : goal.invariant-loop-i
invariant-loop-i l = (length l.out ≡ length l.initial.out) × (stored l.out l.at (in_digits l.base l.i l.rest) ≡ stored l.initial.out l.at (in_digits l.base l.count l.n))
