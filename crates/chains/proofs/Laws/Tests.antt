-- A test with its meaning, put together from the meanings of its parts.
use Rattle.std.specs.Prelude.{ℕ, ◌≤◌, ◌≡◌, refl, ◌⊎◌, Bool, true, false, ◌&&◌, ◌||◌, not, leb, eqb}
use Rattle.std.proofs.Common.{arith, inl, inr, le-leb, eq-eqb, ne_eqb}
use Rattle.std.proofs.Math.Decide.{ℕ_discrete, dec_le}
use Rattle.std.proofs.lemmas.Bool.{lt-leb}
use Rattle.chains.specs.Aids.Tests.{Says, aye, nay}

pub says_le : (m n : ℕ) → Says (leb m n) (m ≤ n)
says_le m n = elim (dec_le m n) [ yes h ↦ aye (le-leb m n h) h | no h ↦ nay (lt-leb m n (omega arith)) h ]

pub says_eq : (m n : ℕ) → Says (eqb m n) (m ≡ n)
says_eq m n = elim (ℕ_discrete m n) [ yes h ↦ aye (eq-eqb m n h) h | no h ↦ nay (ne_eqb m n h) h ]

pub says_and : {a b : Bool} {P Q : Type 0} → Says a P → Says b Q → Says (a && b) (P × Q)
says_and (aye e p) (aye g q) = aye (rw (e, g)) (p, q)
says_and (aye e p) (nay g q) = nay (rw (e, g)) (λ r. q r.1)
says_and (nay e p) (aye g q) = nay (rw e) (λ r. p r.0)
says_and (nay e p) (nay g q) = nay (rw e) (λ r. p r.0)

pub says_or : {a b : Bool} {P Q : Type 0} → Says a P → Says b Q → Says (a || b) (P ⊎ Q)
says_or (aye e p) (aye g q) = aye (rw e) (inl p)
says_or (aye e p) (nay g q) = aye (rw e) (inl p)
says_or (nay e p) (aye g q) = aye (rw (e, g)) (inr q)
says_or (nay e p) (nay g q) = nay (rw (e, g)) (λ r. elim r [ inl x ↦ p x | inr y ↦ q y ])

pub says_not : {b : Bool} {P : Type 0} → Says b P → Says (not b) (¬ P)
says_not (aye e p) = nay (rw e) (λ n. n p)
says_not (nay e p) = aye (rw e) p

pub says_map : {b : Bool} {P Q : Type 0} → (P → Q) → (Q → P) → Says b P → Says b Q
says_map f g (aye e p) = aye e (f p)
says_map f g (nay e p) = nay e (λ q. p (g q))

-- no test is both
pub clash : {b : Bool} → b ≡ true → b ≡ false → ⊥
clash x y = let z : ◌≡◌ {A = ℕ} 0 1 = cc in omega arith

pub says_true : {b : Bool} {P : Type 0} → Says b P → b ≡ true → P
says_true (aye e p) t = p
says_true (nay e p) t = absurd (clash t e)

pub says_false : {b : Bool} {P : Type 0} → Says b P → b ≡ false → ¬ P
says_false (aye e p) t = absurd (clash e t)
says_false (nay e p) t = p

pub true_says : {b : Bool} {P : Type 0} → Says b P → P → b ≡ true
true_says (aye e p) t = e
true_says (nay e p) t = absurd (p t)

pub false_says : {b : Bool} {P : Type 0} → Says b P → ¬ P → b ≡ false
false_says (aye e p) t = absurd (t p)
false_says (nay e p) t = e

pub says_dec : {b : Bool} {P : Type 0} → Says b P → Dec P
says_dec (aye e p) = yes p
says_dec (nay e p) = no p

-- the two cases of a test, with what was decided
pub by_test : {C : Type 0} (b : Bool) → (b ≡ true → C) → (b ≡ false → C) → C
by_test true y n = y refl
by_test false y n = n refl

pub not-true : (b : Bool) → not b ≡ true → b ≡ false
not-true true e = absurd (clash e refl)
not-true false e = refl

pub not-false : (b : Bool) → not b ≡ false → b ≡ true
not-false true e = refl
not-false false e = absurd (clash refl e)
