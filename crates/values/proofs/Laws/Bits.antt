-- The 12 bits in their word, on numbers alone.
use Rattle.std.specs.Prelude.{ℕ, ◌<◌, Bool, true, false, ◌≡◌}
use Rattle.std.proofs.Common.{arith}
use Rattle.values.specs.Bits.{taken, kept}

pub taken_small : (e : Bool) (w : ℕ) → w < 65536 → taken e w < 4096
unfolding taken
taken_small true w h = omega arith
taken_small false w h = omega arith

pub kept_small : (e : Bool) (w v : ℕ) → w < 65536 → v < 4096 → kept e w v < 65536
unfolding kept
kept_small true w v hw hv = omega arith
kept_small false w v hw hv = omega arith

-- what was put in is taken out
pub taken_kept : (e : Bool) (w v : ℕ) → v < 4096 → taken e (kept e w v) ≡ v
unfolding taken kept
taken_kept true w v hv = omega arith
taken_kept false w v hv = omega arith
