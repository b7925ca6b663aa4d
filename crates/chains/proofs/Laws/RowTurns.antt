-- Loops over slots that add up or mark, turn by turn: they stand at slot s, and end - s slots are left.
use Rattle.std.specs.Prelude.{ℕ, suc, ◌+◌, ◌-◌, ◌≤◌, ◌<◌, ◌≡◌, refl, List, [], ◌∷◌}
use Rattle.std.proofs.Common.{arith, sym, ap, ◌∙◌}
use Rattle.chains.specs.Aids.Lists.{joined}
use Rattle.chains.specs.Aids.Marks.{marks}
use Rattle.chains.specs.Aids.Findings.{holders_of}
use Rattle.chains.specs.Aids.Rows.{rows}
use Rattle.chains.proofs.Laws.Marks.{marks_joined}

rows_one : (way : ℕ → ℕ) (end s : ℕ) → s < end → holders_of (rows way s (end - s)) ≡ way s ∷ holders_of (rows way (s + 1) (end - (s + 1)))
unfolding rows holders_of
rows_one way end s l =
    let z : end - s ≡ suc (end - (s + 1)) = omega arith in
    let y : suc s ≡ s + 1 = omega arith in
    rw (z, rows, holders_of, sym y) refl

rows_none : (way : ℕ → ℕ) (end s : ℕ) → end ≤ s → holders_of (rows way s (end - s)) ≡ []
rows_none way end s l = let z : end - s ≡ 0 = omega arith in rw z (unfold rows holders_of in refl)

-- ---- marks: m are those of the slots before s

pub marks_turn : (χ : ℕ → List ℕ) (way : ℕ → ℕ) (end s : ℕ) (m m' whole : List ℕ) → s < end → m' ≡ marks m (χ (way s))
    → marks m (joined χ (holders_of (rows way s (end - s)))) ≡ whole → marks m' (joined χ (holders_of (rows way (s + 1) (end - (s + 1))))) ≡ whole
marks_turn χ way end s m m' whole l e w =
    rw e (sym (ap (λ (is : List ℕ). marks m (joined χ is)) (rows_one way end s l) ∙ marks_joined m χ (way s) (holders_of (rows way (s + 1) (end - (s + 1))))) ∙ w)

pub marks_end : (χ : ℕ → List ℕ) (way : ℕ → ℕ) (end s : ℕ) (m whole : List ℕ) → end ≤ s → marks m (joined χ (holders_of (rows way s (end - s)))) ≡ whole → m ≡ whole
unfolding joined marks
marks_end χ way end s m whole l w = sym (ap (λ (is : List ℕ). marks m (joined χ is)) (rows_none way end s l)) ∙ w
