-- What a question mark lets go on, and what it returns.
use Rattle.std.specs.Prelude.{ℕ, Option, Some, None, Result, Ok, Err, ok_or, IsErrAnd, MatchResult, ◌≡◌}
use Rattle.std.proofs.Common.{arith, sym, ◌∙◌}
use Rattle.std.proofs.lemmas.Result.{err_from_is_err_and}
use Rattle.calls.specs.declared.refusal.Refusal.{Refusal}

-- it returns the error that it met
pub exits : {A : Type 0} {a : Result A Refusal} {e : Refusal} → IsErrAnd a (λ y. y ≡ e) → a ≡ Err e
exits {a = a} h = let p = err_from_is_err_and a h in rw (p.1, p.2)

-- so what holds of that error is what is to be shown there
pub exits_by : {A : Type 0} (a : Result A Refusal) (P : A → Type 0) (Q : Refusal → Type 0) (e : Refusal) → IsErrAnd a (λ y. y ≡ e) → Q e → MatchResult a P Q
exits_by a P Q e h q = rw (exits h) q

-- what was wanted of o: r has it, or e
module _ {A : Type 0} (o : Option A) (e : Refusal) (r : Result A Refusal) (asked : r ≡ ok_or o e) where
  pub lacked : (d : Refusal) → r ≡ Err d → (o ≡ None) × (e ≡ d)
  lacked d q = by o (sym asked ∙ q)
    where
      by : (x : Option A) → ok_or x e ≡ Err d → (x ≡ None) × (e ≡ d)
      by None i = (cc, cc)
      by (Some x) i = absurd (let z : ◌≡◌ {A = ℕ} 0 1 = cc in omega arith)

  pub had : (x : A) → r ≡ Ok x → o ≡ Some x
  had x q = by o (sym asked ∙ q)
    where
      by : (y : Option A) → ok_or y e ≡ Ok x → y ≡ Some x
      by None i = absurd (let z : ◌≡◌ {A = ℕ} 0 1 = cc in omega arith)
      by (Some y) i = cc
