-- The first finding at its lowest place, as it is computed; and what theorems ask of an order of places.
use Rattle.std.specs.Prelude.{ℕ, Bool, false, true, ◌≡◌, Option, Some, None}
use Rattle.search.specs.Search.{Lowest, Nowhere}

-- any two differ one way. (Theorems take it; the definitions take the test alone.)
pub record Orders {P : Type 0} (before : P → P → Bool) : Type 0 where
  pub irr : (p : P) → before p p ≡ false
  pub trans : (p q r : P) → before p q ≡ true → before q r ≡ true → before p r ≡ true
  pub tri : (p q : P) → before p q ≡ false → before q p ≡ false → p ≡ q

-- what a search found, said so; else a
unfoldable pub or_else : {P A : Type 0} → (P → A) → Option P → A → A
or_else say None a = a
or_else say (Some p) a = say p

-- the search o found what there is
pub data Finds {P : Type 0} (before : P → P → Bool) (B : P → Type 0) (o : Option P) : Type 0 where
  found : (p : P) → o ≡ Some p → Lowest before B p → Finds before B o
  nowhere : o ≡ None → Nowhere B → Finds before B o
