-- Entries in slots, searched from slot 0 on.
use Rattle.std.specs.Prelude.{ℕ, zero, suc, ◌+◌, ◌≤◌, ◌<◌, ◌≡◌, not, ltb}
use Rattle.std.proofs.Common.{arith, sym, ap, ◌∙◌, subst, inl, inr}
use Rattle.std.proofs.Math.Decide.{ℕ_discrete}
use Rattle.std.proofs.Math.Path.{refl}
use Rattle.search.specs.Search.{lowest}
use Rattle.chains.specs.Lists.{◌∈◌}
use Rattle.chains.specs.Aids.Lists.{occ, Once}
use Rattle.chains.specs.Sums.{sum}
use Rattle.chains.specs.Aids.Sums.{sum_over}
use Rattle.chains.specs.Aids.Sizes.{Geometry}
use Rattle.chains.specs.Aids.Holders.{Holder, Owns}
use Rattle.chains.specs.Aids.Verdict.{Finds}
use Rattle.chains.specs.Aids.Findings.{BadChain, holders_of}
use Rattle.chains.specs.Aids.Check.{ownsb}
use Rattle.chains.specs.Aids.Rows.{rows}
use Rattle.chains.proofs.Laws.Tests.{says_map, says_not}
use Rattle.chains.proofs.Laws.Lists.{hit_cases, occ_not}
use Rattle.chains.proofs.Laws.Sums.{sum_cong, sum_first}
use Rattle.chains.proofs.Laws.Verdict.{lowest_finds}
use Rattle.chains.proofs.Laws.Check.{holders_in, in_holders, says_owned}

pub rows_in : (way : ℕ → ℕ) (k n p i : ℕ) → (p, i) ∈ rows way k n → (k ≤ p) × (p < k + n) × (i ≡ way p)
unfolding rows
rows_in way k zero p i m = absurd m
rows_in way k (suc n) p i (inl e) =
    let x : p ≡ k = ap (λ (z : ℕ × ℕ). z.0) e in
    let y : i ≡ way k = ap (λ (z : ℕ × ℕ). z.1) e in
    (omega arith, omega arith, y ∙ ap way (sym x))
rows_in way k (suc n) p i (inr m) = let r = rows_in way (suc k) n p i m in (omega arith, omega arith, r.2)

pub in_rows : (way : ℕ → ℕ) (k n p : ℕ) → k ≤ p → p < k + n → (p, way p) ∈ rows way k n
unfolding rows
in_rows way k zero p l m = absurd (omega arith)
in_rows way k (suc n) p l m = elim (ℕ_discrete p k) [
  | yes q ↦ inl (λ j. (q j, way (q j)))
  | no q ↦ inr (in_rows way (suc k) n p (omega arith) (omega arith))
]

-- the holders of the slots k .. k + n - 1 are those that the way leads to
pub row_holder : (way : ℕ → ℕ) (k n i : ℕ) → i ∈ holders_of (rows way k n) → (p : ℕ) × (k ≤ p) × (p < k + n) × (i ≡ way p)
row_holder way k n i m =
    let r = holders_in (rows way k n) i m in
    let q = rows_in way k n r.0 i r.1 in
    (r.0, q.0, q.1, q.2)

pub holder_row : (way : ℕ → ℕ) (k n p : ℕ) → k ≤ p → p < k + n → way p ∈ holders_of (rows way k n)
holder_row way k n p l m = in_holders (rows way k n) p (way p) (in_rows way k n p l m)

-- where no two slots share a holder, each is listed once
pub rows_once : (way : ℕ → ℕ) → ((p q : ℕ) → way p ≡ way q → p ≡ q) → (k n : ℕ) → Once (holders_of (rows way k n))
unfolding rows holders_of occ
rows_once way inj k zero a = omega arith
rows_once way inj k (suc n) a = elim (hit_cases a (way k)) [
  | inr h ↦ omega (arith, h.1, rows_once way inj (suc k) n a)
  | inl h ↦ omega (
    arith,
    h.1,
    occ_not a (holders_of (rows way (suc k) n)) (λ m.
        let r = row_holder way (suc k) n a m in
        let e : k ≡ r.0 = inj k r.0 (sym h.0 ∙ r.3) in
        omega (arith, r.1)),
  )
]

-- a sum over the holders is a sum over the slots
pub rows_sum : (way : ℕ → ℕ) (g : ℕ → ℕ) (k n : ℕ) → sum_over (holders_of (rows way k n)) g ≡ sum n (λ s. g (way (s + k)))
unfolding rows holders_of sum_over
rows_sum way g k zero = unfold sum in refl
rows_sum way g k (suc n) =
    let q : sum n (λ s. g (way (s + 1 + k))) ≡ sum n (λ s. g (way (s + suc k))) = sum_cong n _ _ (λ s l. ap (λ (x : ℕ). g (way x)) (omega arith)) in
    let z : g (way (0 + k)) ≡ g (way k) = ap (λ (x : ℕ). g (way x)) (omega arith) in
    omega (arith, sum_first n (λ s. g (way (s + k))), q, z, rows_sum way g (suc k) n)

-- finding 5 by a loop over the slots from below
pub found_bad_chain : (G : Geometry) (f : ℕ → ℕ) (h : ℕ → Holder) (way : ℕ → ℕ) (n : ℕ)
    → Finds ltb (BadChain G.last f h (rows way 0 n)) (lowest (λ s. not (ownsb G.last f (h (way s)))) 0 n)
found_bad_chain G f h way n = lowest_finds (BadChain G.last f h (rows way 0 n)) (λ s. not (ownsb G.last f (h (way s)))) 0 n
    (λ p x. let r = rows_in way 0 n p x.0 x.1 in (omega arith, r.1))
    (λ p l k. says_map (λ x. (way p, in_rows way 0 n p l k, λ cs o. x (cs, o)))
    (λ x y. x.2 y.0 (subst (λ (i : ℕ). Owns G.last f (h i) y.0) (sym (rows_in way 0 n p x.0 x.1).2) y.1))
    (says_not (says_owned G f (h (way p)))))
