-- Lists: the last of one, how often a number stands in one, several lists as one.
use Rattle.std.specs.Prelude.{ℕ, ◌+◌, ◌≤◌, List, [], ◌∷◌, ◌++◌, ◌≢◌, eqb}
use Rattle.chains.specs.Sums.{bit}
use Rattle.chains.specs.Lists.{◌∈◌}

-- the last of c and cs
unfoldable pub last_of : ℕ → List ℕ → ℕ
last_of c [] = c
last_of c (d ∷ ds) = last_of d ds

-- 1 where the two are equal, else 0
unfoldable pub hit : ℕ → ℕ → ℕ
hit a x = bit (eqb a x)

-- how often a stands in the list
unfoldable pub occ : ℕ → List ℕ → ℕ
occ a [] = 0
occ a (x ∷ xs) = hit a x + occ a xs

-- nothing stands in it twice
abbrev pub Once : List ℕ → Type 0
Once cs = (a : ℕ) → occ a cs ≤ 1

-- the lists of all of is, one behind the other
unfoldable pub joined : {A B : Type 0} → (A → List B) → List A → List B
joined χ [] = []
joined χ (i ∷ is) = χ i ++ joined χ is

-- c stands in the lists of two different ones of is
abbrev pub InTwoOf : (ℕ → List ℕ) → List ℕ → ℕ → Type 0
InTwoOf χ is c = (i j : ℕ) × (i ≢ j) × (i ∈ is) × (j ∈ is) × (c ∈ χ i) × (c ∈ χ j)
