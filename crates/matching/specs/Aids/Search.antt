-- The test of a slot that the search makes, and all that pass.
use Rattle.std.specs.Prelude.{ℕ, zero, suc, ◌+◌, Bool, cond, List, [], ◌∷◌}
use Rattle.matching.specs.Find.{is_match}

-- slot s holds a match
abbrev pub match_slot : List ℕ → (ℕ → ℕ) → List ℕ → ℕ → ℕ → Bool
match_slot l way pattern mask s = is_match l (way s) pattern mask

-- those of the n numbers from s on that pass a test, lowest first
unfoldable pub picked : (ℕ → Bool) → ℕ → ℕ → List ℕ
picked p s zero = []
picked p s (suc n) = cond (p s) (s ∷ picked p (s + 1) n) (picked p (s + 1) n)
