-- Findings that hold at the same places are answered alike.
use Rattle.std.specs.Prelude.{Bool, ◌↔◌}
use Rattle.std.proofs.Common.{inl, inr}
use Rattle.chains.specs.Verdict.{OrElse}
use Rattle.search.specs.Search.{Lowest, Nowhere}

pub turned : {P Q : Type 0} → P ↔ Q → Q ↔ P
turned e = (e.1, e.0)

pub none_as : {P : Type 0} (B C : P → Type 0) → ((p : P) → B p ↔ C p) → Nowhere B → Nowhere C
none_as B C same n p c = n p ((same p).1 c)

module _ {P : Type 0} (before : P → P → Bool) (B C : P → Type 0) (same : (p : P) → B p ↔ C p) where
  pub lowest_as : (p : P) → Lowest before B p → Lowest before C p
  lowest_as p l = ((same p).0 l.0, λ q e c. l.1 q e ((same q).1 c))

  pub or_else_as : {A : Type 0} (say : P → A) (Rest More : A → Type 0) (a : A) → (Nowhere C → Rest a → More a) → OrElse before B say Rest a → OrElse before C say More a
  or_else_as say Rest More a f (inl x) = inl (x.0, lowest_as x.0 x.1, x.2)
  or_else_as say Rest More a f (inr x) = inr (none_as B C same x.0, f (none_as B C same x.0) x.1)
