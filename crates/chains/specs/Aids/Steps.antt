-- What loops do along a chain, turn by turn.
use Rattle.std.specs.Prelude.{ℕ, zero, suc}

-- the cluster that is met after k links from c on
unfoldable pub followed : (ℕ → ℕ) → ℕ → ℕ → ℕ
followed f zero c = c
followed f (suc k) c = followed f k (f c)
