-- Only one answer fits a list of findings; and a search that found what there is gives that answer.
use Rattle.std.specs.Prelude.{ℕ, ◌+◌, ◌≤◌, ◌<◌, ◌≡◌, refl, Bool, ltb, Option, Some, None}
use Rattle.std.proofs.Common.{arith, sym, ap, ◌∙◌, inl, inr, ltb-true, ltb-false, lt-ltb, le-ltb}
use Rattle.search.specs.Search.{lowest, Lowest, Nowhere, Answers}
use Rattle.search.proofs.Laws.Answers.{lowest_answers}
use Rattle.chains.specs.Aids.Tests.{Says}
use Rattle.chains.specs.Verdict.{OrElse}
use Rattle.chains.specs.Aids.Verdict.{Orders, or_else, Finds, found, nowhere}
use Rattle.chains.proofs.Laws.Tests.{by_test, says_true, true_says}

pub lowest_same : {P : Type 0} (before : P → P → Bool) → Orders before → (B : P → Type 0) (p q : P) → Lowest before B p → Lowest before B q → p ≡ q
lowest_same before O B p q a b = by_test (before p q)
    (λ e. absurd (b.1 p e a.0))
    (λ e. by_test (before q p) (λ d. absurd (a.1 q d b.0)) (λ d. O.tri p q e d))

-- one finding more in front: still only one answer
pub or_else_same : {P A : Type 0} (before : P → P → Bool) → Orders before → (B : P → Type 0) (say : P → A) (Rest : A → Type 0) → ((a b : A) → Rest a → Rest b → a ≡ b)
    → (a b : A) → OrElse before B say Rest a → OrElse before B say Rest b → a ≡ b
or_else_same before O B say Rest u a b (inl x) (inl y) = x.2 ∙ ap say (lowest_same before O B x.0 y.0 x.1 y.1) ∙ sym y.2
or_else_same before O B say Rest u a b (inl x) (inr y) = absurd (y.0 x.0 x.1.0)
or_else_same before O B say Rest u a b (inr x) (inl y) = absurd (x.0 y.0 y.1.0)
or_else_same before O B say Rest u a b (inr x) (inr y) = u a b x.1 y.1

-- ---- searches

pub or_else_lem : {P A : Type 0} (before : P → P → Bool) (B : P → Type 0) (say : P → A) (Rest : A → Type 0) (o : Option P) (a : A) → Finds before B o → (Nowhere B → Rest a) → OrElse before B say Rest (or_else say o a)
unfolding or_else
or_else_lem before B say Rest o a (found p e l) r = inl (p, l, rw e refl)
or_else_lem before B say Rest o a (nowhere e n) r = inr (n, rw e (r n))

-- ---- numbers in order, searched from below

pub numbers : Orders ltb
numbers = record {
  irr = λ p. le-ltb p p (omega arith);
  trans = λ p q r a b. lt-ltb p r (omega (arith, ltb-true p q a, ltb-true q r b));
  tri = λ p q a b. omega (arith, ltb-false p q a, ltb-false q p b);
}

finds_answer : (B : ℕ → Type 0) (o : Option ℕ) → Answers B o → Finds ltb B o
finds_answer B (Some p) x = found p refl x
finds_answer B None x = nowhere refl x

-- B may hold in the range alone, and there the test decides it
pub lowest_finds : (B : ℕ → Type 0) (t : ℕ → Bool) (c n : ℕ) → ((p : ℕ) → B p → (c ≤ p) × (p < c + n))
    → ((p : ℕ) → c ≤ p → p < c + n → Says (t p) (B p)) → Finds ltb B (lowest t c n)
lowest_finds B t c n b d = finds_answer B (lowest t c n) (lowest_answers t B c n b (λ q l k. (says_true (d q l k), true_says (d q l k))))
