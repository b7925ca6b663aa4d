-- What a call leaves behind, and how its refusals are decided.
use Rattle.std.specs.Prelude.{ℕ, Bool, cond, List, [], ◌∷◌, eqb}

-- the refusal's number (0 where the call ends well), its value, and image, table and buffer after it
pub record Outcome : Type 0 where
  pub number : ℕ
  pub value : ℕ
  pub image : List ℕ
  pub table : List ℕ
  pub buffer : List ℕ

abbrev pub outcome : ℕ → ℕ → List ℕ → List ℕ → List ℕ → Outcome
outcome n v l t b = record { number = n; value = v; image = l; table = t; buffer = b }

-- a row of the refusal table: when, and the number
abbrev pub Row : Type 0
Row = Bool × ℕ

-- the number of the first row that holds, 0 where none does
unfoldable pub refusal : List Row → ℕ
refusal [] = 0
refusal (r ∷ rs) = cond r.0 r.1 (refusal rs)

-- "A refusal answers its number, count or handle 0, and alters nothing"; where there is none, the effect
unfoldable pub decided : List Row → Outcome → List ℕ → List ℕ → List ℕ → Outcome
decided rows effect l t b = cond (eqb (refusal rows) 0) effect (outcome (refusal rows) 0 l t b)
