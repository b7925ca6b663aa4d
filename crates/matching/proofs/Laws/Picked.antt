-- All that pass a test: the lowest is the head, what is in the list, and its order.
use Prim.Native.Nat.{ℕ, zero, suc, ◌+◌, ◌-◌, ◌≤◌, ◌<◌}
use native.Mathlib.Omega.{arith}
use Rattle.std.proofs.Math.Decide.{ℕ_discrete}
use Rattle.std.specs.Prelude.{Bool, List, [], ◌∷◌, ◌↔◌, ◌≡◌, ℕ, Option, Some, None}
use Rattle.std.proofs.Math.Bool.{true, false, cond}
use Rattle.std.proofs.Common.{inl, sym, ◌∙◌}
use Rattle.std.proofs.Math.Logic.{inr}
use Rattle.std.proofs.Math.Path.{refl, ap}
use Rattle.std.proofs.Math.ListN.{length, get_or}
use Rattle.chains.specs.Lists.{◌∈◌}
use Rattle.chains.proofs.Laws.Lists.{index_mem}
use Rattle.search.specs.Search.{lowest}
use Rattle.matching.specs.Aids.Search.{picked}

-- the lowest, and those between it and end
abbrev pub headed : (ℕ → Bool) → ℕ → Option ℕ → List ℕ
headed p end (Some i) = i ∷ picked p (i + 1) (end - (i + 1))
headed p end None = []

pub picked_headed : (p : ℕ → Bool) (s n : ℕ) → picked p s n ≡ headed p (s + n) (lowest p s n)
unfolding picked lowest
picked_headed p s zero = refl
picked_headed p s (suc n) = by (p s) (picked_headed p (s + 1) n)
  where
    by : (b : Bool) → picked p (s + 1) n ≡ headed p (s + 1 + n) (lowest p (s + 1) n)
        → cond b (s ∷ picked p (s + 1) n) (picked p (s + 1) n) ≡ headed p (s + suc n) (cond b (Some s) (lowest p (s + 1) n))
    by true x = let e : s + suc n - (s + 1) ≡ n = omega arith in rw e
    by false x = let e : s + 1 + n ≡ s + suc n = omega arith in x ∙ ap (λ (end : ℕ). headed p end (lowest p (s + 1) n)) e

-- ---- what is in it

module _ (p : ℕ → Bool) where
  picked_passes : (s n t : ℕ) → t ∈ picked p s n → (s ≤ t) × (t < s + n) × (p t ≡ true)
  unfolding picked
  picked_passes s zero t m = absurd m
  picked_passes s (suc n) t m = by (p s) refl (picked_passes (s + 1) n t) m
    where
      by : (b : Bool) → p s ≡ b → (t ∈ picked p (s + 1) n → (s + 1 ≤ t) × (t < s + 1 + n) × (p t ≡ true))
          → t ∈ cond b (s ∷ picked p (s + 1) n) (picked p (s + 1) n) → (s ≤ t) × (t < s + suc n) × (p t ≡ true)
      by true e later (inl q) = (omega arith, omega arith, ap p q ∙ e)
      by true e later (inr h) = let r = later h in (omega arith, omega arith, r.2)
      by false e later h = let r = later h in (omega arith, omega arith, r.2)

  passes_picked : (s n t : ℕ) → s ≤ t → t < s + n → p t ≡ true → t ∈ picked p s n
  unfolding picked
  passes_picked s zero t h k e = absurd (omega arith)
  passes_picked s (suc n) t h k e = elim (ℕ_discrete t s) [
    | yes q ↦ rw (ap p (sym q) ∙ e) (inl q)
    | no q ↦ by (p s) (passes_picked (s + 1) n t (omega arith) (omega arith) e)
  ]
    where
      by : (b : Bool) → t ∈ picked p (s + 1) n → t ∈ cond b (s ∷ picked p (s + 1) n) (picked p (s + 1) n)
      by true m = inr m
      by false m = m

  pub picked_exactly : (s n t : ℕ) → (t ∈ picked p s n) ↔ ((s ≤ t) × (t < s + n) × (p t ≡ true))
  picked_exactly s n t = (picked_passes s n t, λ x. passes_picked s n t x.0 x.1 x.2)

  -- ---- its order

  pub picked_rising : (s n i j : ℕ) → i < j → j < length (picked p s n) → get_or (picked p s n) i 0 < get_or (picked p s n) j 0
  unfolding picked
  picked_rising s zero i j h k = absurd (omega arith)
  picked_rising s (suc n) i j h k = by (p s) (picked_rising (s + 1) n) i j h k
    where
      by : (b : Bool) → ((i j : ℕ) → i < j → j < length (picked p (s + 1) n) → get_or (picked p (s + 1) n) i 0 < get_or (picked p (s + 1) n) j 0)
          → (i j : ℕ) → i < j → j < length (cond b (s ∷ picked p (s + 1) n) (picked p (s + 1) n))
          → get_or (cond b (s ∷ picked p (s + 1) n) (picked p (s + 1) n)) i 0 < get_or (cond b (s ∷ picked p (s + 1) n) (picked p (s + 1) n)) j 0
      by false rest i j h k = rest i j h k
      by true rest i zero h k = absurd (omega arith)
      by true rest zero (suc j) h k =
          omega (arith, (picked_passes (s + 1) n (get_or (picked p (s + 1) n) j 0) (index_mem (picked p (s + 1) n) j (omega arith))).0)
      by true rest (suc i) (suc j) h k = rest i j (omega arith) (omega arith)
