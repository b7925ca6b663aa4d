-- Packing, and that the two halves settle an answer.
use Rattle.std.specs.Prelude.{ℕ, ◌+◌, ◌*◌, ◌<◌, ◌≡◌}
use Rattle.std.proofs.Common.{arith}
use Rattle.packing.specs.Packing.{upper, lower}
use Rattle.packing.specs.Aids.Packing.{Packs}

pub packs : (number value r : ℕ) → number < 4294967296 → value < 4294967296 → r ≡ number * 4294967296 + value → Packs number value r
packs number value r n v e = record { number_is = omega arith; value_is = omega arith }

pub same_halves : (a b : ℕ) → upper a ≡ upper b → lower a ≡ lower b → a ≡ b
same_halves a b u l = omega arith
