-- Chains of clusters through a table f, without any walk, from the front.
use Rattle.std.specs.Prelude.{ℕ, List, [], ◌∷◌, ◌≡◌}
use Rattle.chains.specs.Values.{End, Link}

-- the value v leads to the clusters cs: each is named by the value before it, all are in range, and the last one's value is an end
abbrev pub Leads : ℕ → (ℕ → ℕ) → ℕ → List ℕ → Type 0
Leads last f v [] = End v
Leads last f v (d ∷ ds) = (v ≡ d) × Link last d × Leads last f (f d) ds

-- cluster c is followed by cs
abbrev pub After : ℕ → (ℕ → ℕ) → ℕ → List ℕ → Type 0
After last f c cs = Leads last f (f c) cs

-- the clusters of whoever starts at c: none, with start 0, or those that c leads to
abbrev pub Chain : ℕ → (ℕ → ℕ) → ℕ → List ℕ → Type 0
Chain last f c [] = c ≡ 0
Chain last f c (d ∷ ds) = Leads last f c (d ∷ ds)
