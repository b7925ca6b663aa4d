-- Entries in the slots of one directory: way takes a slot to the number of its holder.
use Rattle.std.specs.Prelude.{ℕ, zero, suc, List, [], ◌∷◌}

-- the n slots from k on
unfoldable pub rows : (ℕ → ℕ) → ℕ → ℕ → List (ℕ × ℕ)
rows way k zero = []
rows way k (suc n) = (k, way k) ∷ rows way (suc k) n
