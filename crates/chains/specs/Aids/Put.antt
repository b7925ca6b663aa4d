-- A function changed at one place: a table after one store, a family after one of it is replaced.
use Rattle.std.specs.Prelude.{ℕ, eqb, cond}

-- f, but v at i
unfoldable pub put : {A : Type 0} → (ℕ → A) → ℕ → A → ℕ → A
put f i v c = cond (eqb c i) v (f c)
