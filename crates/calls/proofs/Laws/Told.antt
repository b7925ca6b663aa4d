-- What a number and a value tell: one answer, since two refusals have two numbers and none has 0; and no large number.
use Rattle.std.specs.Prelude.{ℕ, ◌≤◌, cond, ◌≡◌, refl, eqb, Result, Ok, Err}
use Rattle.std.proofs.Common.{arith, sym, ap, ◌∙◌}
use Rattle.calls.specs.declared.refusal.Refusal.{Refusal}
use Rattle.calls.specs.declared.refusal.Refusal.TheVariants.{InvalidFunction, FileNotFound, TooManyOpen, AccessDenied, InvalidHandle, InvalidAccess, NoMoreFiles, OfNoKind, Unsound, BreaksRules, OutOfRange}
use Rattle.calls.specs.Numbers.{refusal_number}
use Rattle.calls.specs.Answers.{Answer, number_told, value_told}

-- the answer that a number and a value tell
answer_by : {A : Type 0} → ℕ → A → Result A Refusal
answer_by n v =
    cond (eqb n 1) (Err InvalidFunction)
    (cond (eqb n 2) (Err FileNotFound)
    (cond (eqb n 4) (Err TooManyOpen)
    (cond (eqb n 5) (Err AccessDenied)
    (cond (eqb n 6) (Err InvalidHandle)
    (cond (eqb n 12) (Err InvalidAccess)
    (cond (eqb n 18) (Err NoMoreFiles)
    (cond (eqb n 40) (Err OfNoKind) (cond (eqb n 41) (Err Unsound) (cond (eqb n 42) (Err BreaksRules) (cond (eqb n 43) (Err OutOfRange) (Ok v)))))))))))

refusal_back : {A : Type 0} (e : Refusal) (v : A) → answer_by (refusal_number e) v ≡ Err e
unfolding answer_by
refusal_back InvalidFunction v = refl
refusal_back FileNotFound v = refl
refusal_back TooManyOpen v = refl
refusal_back AccessDenied v = refl
refusal_back InvalidHandle v = refl
refusal_back InvalidAccess v = refl
refusal_back NoMoreFiles v = refl
refusal_back OfNoKind v = refl
refusal_back Unsound v = refl
refusal_back BreaksRules v = refl
refusal_back OutOfRange v = refl

told_back : (a : Answer) → answer_by (number_told a) (value_told a) ≡ a
unfolding answer_by
told_back (Ok v) = refl
told_back (Err e) = refusal_back e 0

pub told_only : {a a' : Answer} → number_told a ≡ number_told a' → value_told a ≡ value_told a' → a ≡ a'
told_only {a} {a'} n v = sym (told_back a) ∙ ap (λ m. answer_by m (value_told a)) n ∙ ap (answer_by (number_told a')) v ∙ told_back a'

-- ---- an answer without a value

done_back : (a : Result Unit Refusal) → answer_by (number_told a) tt ≡ a
unfolding answer_by
done_back (Ok tt) = refl
done_back (Err e) = refusal_back e tt

pub done_only : {a a' : Result Unit Refusal} → number_told a ≡ number_told a' → a ≡ a'
done_only {a} {a'} n = sym (done_back a) ∙ ap (λ m. answer_by m tt) n ∙ done_back a'

-- ---- and no refusal has a number above 43

refusal_low : (e : Refusal) → refusal_number e ≤ 43
refusal_low InvalidFunction = omega arith
refusal_low FileNotFound = omega arith
refusal_low TooManyOpen = omega arith
refusal_low AccessDenied = omega arith
refusal_low InvalidHandle = omega arith
refusal_low InvalidAccess = omega arith
refusal_low NoMoreFiles = omega arith
refusal_low OfNoKind = omega arith
refusal_low Unsound = omega arith
refusal_low BreaksRules = omega arith
refusal_low OutOfRange = omega arith

pub told_low : {A : Type 0} (a : Result A Refusal) → number_told a ≤ 43
told_low (Ok v) = omega arith
told_low (Err e) = refusal_low e
