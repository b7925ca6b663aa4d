-- A walk along a chain of unknown length. Its fuel is the last cluster's number, more than any chain is long.
use Rattle.std.specs.Prelude.{ℕ, zero, suc, true, false, List, [], ◌∷◌, eqb, Option, Some, None}
use Rattle.chains.specs.Values.{linkb, endb}

-- v in front of the list, if there is one
abbrev pub onto : ℕ → Option (List ℕ) → Option (List ℕ)
onto v None = None
onto v (Some cs) = Some (v ∷ cs)

-- what follows a cluster with the value v, in k steps: none where the steps run out or a value is neither link nor end
unfoldable pub trail : ℕ → (ℕ → ℕ) → ℕ → ℕ → Option (List ℕ)
trail last f zero v = None
trail last f (suc k) v = let r = trail last f k (f v) in elim (endb v) [ true ↦ Some [] | false ↦ elim (linkb last v) [ true ↦ onto v r | false ↦ None ] ]

-- the clusters of whoever starts at c: none where there is no chain
unfoldable pub walk : ℕ → (ℕ → ℕ) → ℕ → Option (List ℕ)
walk last f c = let r = onto c (trail last f last (f c)) in elim (eqb c 0) [ true ↦ Some [] | false ↦ elim (linkb last c) [ true ↦ r | false ↦ None ] ]
