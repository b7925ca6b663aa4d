-- Tests of a table's values, as check's counts make them.
use Rattle.std.specs.Prelude.{ℕ, Bool, false, ◌≡◌}
use Rattle.chains.specs.Values.{Used}

-- does the value of cluster c pass?
unfoldable pub passes_at : (ℕ → Bool) → (ℕ → ℕ) → ℕ → Bool
passes_at t f c = t (f c)

-- no value that is free, a link or an end passes
pub record OutOfUse (last : ℕ) (t : ℕ → Bool) : Type 0 where
  pub not_free : (v : ℕ) → v ≡ 0 → t v ≡ false
  pub not_used : (v : ℕ) → Used last v → t v ≡ false
