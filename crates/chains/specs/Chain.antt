-- The clusters of a chain, from the front: each is named by the value before it.
use Rattle.std.specs.Prelude.{ℕ, zero, suc, cond, List, [], ◌∷◌}
use Rattle.chains.specs.Values.{linkb}

-- at most n of them from the value v on, up to a value that is no cluster's number, as an end value is
unfoldable pub clusters_from : ℕ → (ℕ → ℕ) → ℕ → ℕ → List ℕ
clusters_from last f zero v = []
clusters_from last f (suc n) v = cond (linkb last v) (v ∷ clusters_from last f n (f v)) []
