-- What the rows of a call decide: it is refused and leaves all as it came, or every row is passed and its effect is there.
use Rattle.std.specs.Prelude.{ℕ, Bool, true, false, List, ◌∷◌, ◌⊎◌, ◌≢◌, ◌≡◌, refl}
use Rattle.std.proofs.Math.Decide.{ℕ_discrete}
use Rattle.std.proofs.Math.Logic.{inl, inr}
use Rattle.std.proofs.Common.{ap, ◌∙◌, eq-eqb, ne_eqb}
use Rattle.calls.specs.Outcome.{Row, Outcome, outcome, refusal, decided}

module _ (rows : List Row) (effect : Outcome) (l t b : List ℕ) where
  pub decided_cases : ((refusal rows ≢ 0) × (decided rows effect l t b ≡ outcome (refusal rows) 0 l t b))
      ⊎ ((refusal rows ≡ 0) × (decided rows effect l t b ≡ effect))
  unfolding decided
  decided_cases = elim (ℕ_discrete (refusal rows) 0) [
    | yes e ↦ inr (e, rw (eq-eqb (refusal rows) 0 e))
    | no n ↦ inl (n, rw (ne_eqb (refusal rows) 0 n))
  ]

  -- an effect that leaves the image
  pub image_stays : effect.image ≡ l → (decided rows effect l t b).image ≡ l
  image_stays e = elim decided_cases [
    | inl x ↦ ap (λ (o : Outcome). o.image) x.1
    | inr x ↦ ap (λ (o : Outcome). o.image) x.1 ∙ e
  ]

-- a row that was passed
pub passed : (test : Bool) (n : ℕ) (rows : List Row) → n ≢ 0 → refusal ((test, n) ∷ rows) ≡ 0 → (test ≡ false) × (refusal rows ≡ 0)
unfolding refusal
passed true n rows d e = absurd (d e)
passed false n rows d e = (refl, e)

-- an effect that ends well, and a call that doesn't: image and table are as they came
pub refused_leaves : (rows : List Row) (effect : Outcome) (l t b : List ℕ) → effect.number ≡ 0 → (decided rows effect l t b).number ≢ 0
    → ((decided rows effect l t b).image ≡ l) × ((decided rows effect l t b).table ≡ t)
refused_leaves rows effect l t b well n = elim (decided_cases rows effect l t b) [
  | inl x ↦ (ap (λ (o : Outcome). o.image) x.1, ap (λ (o : Outcome). o.table) x.1)
  | inr x ↦ absurd (n (ap (λ (o : Outcome). o.number) x.1 ∙ well))
]
