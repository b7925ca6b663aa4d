-- The lowest: as a search finds it, and in words.
use Rattle.std.specs.Prelude.{ℕ, zero, suc, ◌+◌, Bool, cond, true, false, ◌≡◌, ltb, Option, Some, None}

-- of the n numbers from s on, the lowest that passes a test
unfoldable pub lowest : (ℕ → Bool) → ℕ → ℕ → Option ℕ
lowest p s zero = None
lowest p s (suc n) = cond (p s) (Some s) (lowest p (s + 1) n)

-- something passes
abbrev pub is_found : Option ℕ → Bool
is_found (Some p) = true
is_found None = false

-- ---- in words: of places of any type, which the test before orders (ltb for numbers)

-- p is the lowest place at which B holds
abbrev pub Lowest : {P : Type 0} → (P → P → Bool) → (P → Type 0) → P → Type 0
Lowest before B p = B p × ((q : _) → before q p ≡ true → ¬ B q)

-- B holds nowhere
abbrev pub Nowhere : {P : Type 0} → (P → Type 0) → Type 0
Nowhere B = (p : _) → ¬ B p

-- what the answer to a search for B means
abbrev pub Answers : (ℕ → Type 0) → Option ℕ → Type 0
Answers B (Some p) = Lowest ltb B p
Answers B None = Nowhere B
