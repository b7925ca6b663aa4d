-- What a search answers, in the words of what the test decides; and that only one answer fits.
use Rattle.std.specs.Prelude.{ℕ, ◌+◌, ◌≤◌, ◌<◌, Bool, true, false, ◌↔◌, ◌≡◌, refl, ltb, Option, Some, None}
use Rattle.std.proofs.Common.{arith, ap, ltb-true, lt-ltb}
use Rattle.std.proofs.Math.Decide.{dec_lt}
use Rattle.search.specs.Search.{lowest, Lowest, Answers}
use Rattle.search.proofs.Laws.Meaning.{LowestIs, lowest_is}

-- B may hold in the range alone, and there the test decides it
pub lowest_answers : (p : ℕ → Bool) (B : ℕ → Type 0) (s n : ℕ) → ((q : ℕ) → B q → (s ≤ q) × (q < s + n))
    → ((q : ℕ) → s ≤ q → q < s + n → (p q ≡ true) ↔ B q) → Answers B (lowest p s n)
lowest_answers p B s n within says = by (lowest p s n) (lowest_is p s n)
  where
    out : (q : ℕ) → B q → p q ≡ false → ⊥
    out q x e = let t : p q ≡ true = (says q (within q x).0 (within q x).1).1 x in let z : ◌≡◌ {A = ℕ} 0 1 = cc in omega arith

    by : (r : Option ℕ) → LowestIs p s n r → Answers B r
    by (Some i) x = ((says i x.0 x.1).0 x.2, λ q h y. out q y (x.3 q (within q y).0 (ltb-true q i h)))
    by None x = λ q y. out q y (x q (within q y).0 (within q y).1)

-- of the numbers below a count
pub below_answers : (p : ℕ → Bool) (P : ℕ → Type 0) (count : ℕ) → ((q : ℕ) → q < count → (p q ≡ true) ↔ P q)
    → Answers (λ q. (q < count) × P q) (lowest p 0 count)
below_answers p P count says =
    lowest_answers p (λ q. (q < count) × P q) 0 count (λ q x. let h : q < count = x.0 in (omega arith, omega arith))
    (λ q z k. let h : q < count = omega arith in (λ t. (h, (says q h).0 t), λ x. (says q h).1 x.1))

-- ---- only one answer fits

pub lowest_one : (B : ℕ → Type 0) (s t : ℕ) → Lowest ltb B s → Lowest ltb B t → s ≡ t
lowest_one B s t x y = elim (dec_lt s t) [
  | yes h ↦ absurd (y.1 s (lt-ltb s t h) x.0)
  | no h ↦ elim (dec_lt t s) [ yes k ↦ absurd (x.1 t (lt-ltb t s k) y.0) | no k ↦ omega arith ]
]

pub only_answer : (B : ℕ → Type 0) (f g : Option ℕ) → Answers B f → Answers B g → f ≡ g
only_answer B None None x y = refl
only_answer B None (Some t) x y = absurd (x t y.0)
only_answer B (Some s) None x y = absurd (y s x.0)
only_answer B (Some s) (Some t) x y = ap Some (lowest_one B s t x y)
