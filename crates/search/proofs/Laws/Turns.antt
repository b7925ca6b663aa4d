-- A turn of a loop that goes from i up to end: what is left gives the whole, and b is what the test answered.
use Prim.Native.Nat.{ℕ, suc, ◌+◌, ◌-◌, ◌≤◌, ◌<◌}
use native.Mathlib.Omega.{arith}
use Rattle.std.specs.Prelude.{Bool, true, false, cond, ◌≡◌, ℕ, Option, Some, None}
use Rattle.std.proofs.Common.{sym, ap, ◌∙◌}
use Rattle.search.specs.Search.{lowest}

module _ (p : ℕ → Bool) (i end : ℕ) where
  lowest_step : i < end → lowest p i (end - i) ≡ cond (p i) (Some i) (lowest p (i + 1) (end - (i + 1)))
  unfolding lowest
  lowest_step h = let e : end - i ≡ suc (end - (i + 1)) = omega arith in rw e

  module _ (answer : Option ℕ) (inv : lowest p i (end - i) ≡ answer) where
    pub lowest_hit : i < end → (b : Bool) → b ≡ p i → b ≡ true → Some i ≡ answer
    lowest_hit h b e t = sym (rw (sym e ∙ t) at (lowest_step h)) ∙ inv

    pub lowest_miss : i < end → (b : Bool) → b ≡ p i → b ≡ false → lowest p (i + 1) (end - (i + 1)) ≡ answer
    lowest_miss h b e t = sym (rw (sym e ∙ t) at (lowest_step h)) ∙ inv

    pub lowest_done : end ≤ i → None ≡ answer
    unfolding lowest
    lowest_done h = let e : end - i ≡ 0 = omega arith in rw e at inv

-- a loop from 0 on has all before it
pub lowest_all : (p : ℕ → Bool) (n : ℕ) → lowest p 0 (n - 0) ≡ lowest p 0 n
lowest_all p n = let e : n - 0 ≡ n = omega arith in ap (lowest p 0) e
