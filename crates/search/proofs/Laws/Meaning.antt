-- What the lowest means, for any test.
use Prim.Native.Nat.{ℕ, zero, suc, ◌+◌, ◌≤◌, ◌<◌}
use Rattle.std.proofs.Common.{arith, sym, subst, ℕ, Option, Some, None}
use Rattle.std.proofs.Math.Decide.{ℕ_discrete}
use Rattle.std.specs.Prelude.{Bool, true, false, ◌≡◌}
use Rattle.std.proofs.Math.Bool.{cond}
use Rattle.std.proofs.Math.Path.{refl, ap₂}
use Rattle.search.specs.Search.{lowest}

-- tests that are equal there have the same lowest
module _ (p q : ℕ → Bool) where
  pub lowest_same : (s f : ℕ) → ((i : ℕ) → s ≤ i → i < s + f → p i ≡ q i) → lowest p s f ≡ lowest q s f
  unfolding lowest
  lowest_same s zero h = refl
  lowest_same s (suc f) h = ap₂ (λ b r. cond b (Some s) r) (h s (omega arith) (omega arith)) (lowest_same (s + 1) f (λ i j k. h i (omega arith) (omega arith)))

-- what an answer says of the f numbers from s on
abbrev pub LowestIs : (ℕ → Bool) → ℕ → ℕ → Option ℕ → Type 0
LowestIs p s f (Some i) = (s ≤ i) × (i < s + f) × (p i ≡ true) × ((j : ℕ) → s ≤ j → j < i → p j ≡ false)
LowestIs p s f None = (j : ℕ) → s ≤ j → j < s + f → p j ≡ false

module _ (p : ℕ → Bool) (s f : ℕ) (e : p s ≡ false) where
  one_more : (r : Option ℕ) → LowestIs p (s + 1) f r → LowestIs p s (suc f) r
  one_more (Some i) x = (omega arith, omega arith, x.2, λ j h k. elim (ℕ_discrete j s) [ yes q ↦ rw q e | no q ↦ x.3 j (omega arith) k ])
  one_more None x = λ j h k. elim (ℕ_discrete j s) [ yes q ↦ rw q e | no q ↦ x j (omega arith) (omega arith) ]

pub lowest_is : (p : ℕ → Bool) (s f : ℕ) → LowestIs p s f (lowest p s f)
unfolding lowest
lowest_is p s zero = λ j h k. absurd (omega arith)
lowest_is p s (suc f) = by (p s) refl (lowest_is p (s + 1) f)
  where
    by : (b : Bool) → p s ≡ b → LowestIs p (s + 1) f (lowest p (s + 1) f) → LowestIs p s (suc f) (cond b (Some s) (lowest p (s + 1) f))
    by true e x = (omega arith, omega arith, e, λ j h k. absurd (omega arith))
    by false e x = one_more p s f e (lowest p (s + 1) f) x

-- there is none just where no number passes
module _ (p : ℕ → Bool) (s f : ℕ) where
  pub none_passes : None ≡ lowest p s f → (i : ℕ) → s ≤ i → i < s + f → p i ≡ false
  none_passes e = subst (LowestIs p s f) (sym e) (lowest_is p s f)

pub lowest_none : (p : ℕ → Bool) (s f : ℕ) → ((i : ℕ) → s ≤ i → i < s + f → p i ≡ false) → None ≡ lowest p s f
unfolding lowest
lowest_none p s zero h = refl
lowest_none p s (suc f) h = rw (h s (omega arith) (omega arith)) (lowest_none p (s + 1) f (λ i j k. h i (omega arith) (omega arith)))
