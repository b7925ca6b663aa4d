-- Sums, and what occurrences add up to.
use Rattle.std.specs.Prelude.{ℕ, zero, suc, ◌+◌, ◌-◌, ◌≤◌, ◌<◌, ◌≡◌, Bool, List, [], ◌∷◌, length}
use Rattle.std.proofs.Common.{arith, sym, ap, ◌∙◌, inl, inr, length-append}
use Rattle.std.proofs.Math.Path.{refl}
use Rattle.chains.specs.Lists.{◌∈◌}
use Rattle.chains.specs.Aids.Lists.{hit, occ, Once, joined}
use Rattle.chains.specs.Sums.{sum, tally, bit}
use Rattle.chains.specs.Aids.Sums.{sum_over, sum_clusters}
use Rattle.chains.specs.Aids.Sizes.{Geometry}
use Rattle.chains.specs.Values.{Link}
use Rattle.chains.proofs.Laws.Lists.{hit_cases, hit_other, hit_same}

pub sum_cong : (n : ℕ) (g h : ℕ → ℕ) → ((i : ℕ) → i < n → g i ≡ h i) → sum n g ≡ sum n h
unfolding sum
sum_cong zero g h e = refl
sum_cong (suc n) g h e =
    let ih : sum n g ≡ sum n h = sum_cong n g h (λ i l. e i (omega arith)) in
    let l : g n ≡ h n = e n (omega arith) in
    omega arith

pub sum_le : (n : ℕ) (g h : ℕ → ℕ) → ((i : ℕ) → i < n → g i ≤ h i) → sum n g ≤ sum n h
unfolding sum
sum_le zero g h e = omega arith
sum_le (suc n) g h e = omega (arith, sum_le n g h (λ i l. e i (omega arith)), e n (omega arith))

pub sum_add : (n : ℕ) (g h : ℕ → ℕ) → sum n (λ i. g i + h i) ≡ sum n g + sum n h
unfolding sum
sum_add zero g h = omega arith
sum_add (suc n) g h = omega (arith, sum_add n g h)

pub sum_zero : (n : ℕ) → sum n (λ i. 0) ≡ 0
unfolding sum
sum_zero zero = refl
sum_zero (suc n) = omega (arith, sum_zero n)

pub sum_one : (n : ℕ) → sum n (λ i. 1) ≡ n
unfolding sum
sum_one zero = refl
sum_one (suc n) = omega (arith, sum_one n)

-- the first term apart
pub sum_first : (n : ℕ) (g : ℕ → ℕ) → sum (suc n) g ≡ g 0 + sum n (λ i. g (i + 1))
unfolding sum
sum_first zero g = omega arith
sum_first (suc n) g = omega (arith, sum_first n g, ap g (one n))
  where
    one : (k : ℕ) → k + 1 ≡ suc k
    one k = omega arith

-- a count is a sum
pub tally_sum : (t : ℕ → Bool) (n c : ℕ) → tally t n c ≡ sum n (λ i. bit (t (i + c)))
unfolding tally
tally_sum t zero c = unfold sum in refl
tally_sum t (suc n) c =
    let q : sum n (λ i. bit (t (i + 1 + c))) ≡ sum n (λ i. bit (t (i + suc c))) = sum_cong n _ _ (λ i k. ap (λ (x : ℕ). bit (t x)) (omega arith)) in
    let z : bit (t (0 + c)) ≡ bit (t c) = ap (λ (x : ℕ). bit (t x)) (omega arith) in
    omega (arith, sum_first n (λ i. bit (t (i + c))), q, z, tally_sum t n (suc c))

-- ---- over lists

pub joined_length : (χ : ℕ → List ℕ) (is : List ℕ) → length (joined χ is) ≡ sum_over is (λ i. length (χ i))
unfolding joined sum_over
joined_length χ [] = refl
joined_length χ (i ∷ is) = length-append (χ i) (joined χ is) ∙ ap (λ (x : ℕ). length (χ i) + x) (joined_length χ is)

-- ---- the occurrences of all clusters in a list add up to its length

sum_hit : (n a : ℕ) → a < n → sum n (λ i. hit i a) ≡ 1
unfolding sum
sum_hit zero a l = omega arith
sum_hit (suc n) a l = elim (hit_cases n a) [
  | inl h ↦
      let z : sum n (λ i. hit i a) ≡ sum n (λ i. 0) = sum_cong n _ _ (λ i k. hit_other i a (omega arith)) in
      omega (arith, sum_zero n)
  | inr h ↦ omega (arith, sum_hit n a (omega arith))
]

hit_clusters : (G : Geometry) (a : ℕ) → Link G.last a → sum_clusters G.last (λ c. hit c a) ≡ 1
hit_clusters G a l =
    let e : sum (G.last - 1) (λ i. hit (i + 2) a) ≡ sum (G.last - 1) (λ i. hit i (a - 2)) = sum_cong (G.last - 1) _ _ shift in
    e ∙ sum_hit (G.last - 1) (a - 2) (omega arith)
  where
    shift : (i : ℕ) → i < G.last - 1 → hit (i + 2) a ≡ hit i (a - 2)
    shift i k = elim (hit_cases i (a - 2)) [
      | inl h ↦ hit_same (i + 2) a (omega arith) ∙ sym h.1
      | inr h ↦ hit_other (i + 2) a (omega arith) ∙ sym h.1
    ]

pub occ_clusters : (G : Geometry) (cs : List ℕ) → ((a : ℕ) → a ∈ cs → Link G.last a) → sum_clusters G.last (λ c. occ c cs) ≡ length cs
unfolding occ
occ_clusters G [] r = sum_zero (G.last - 1)
occ_clusters G (x ∷ xs) r =
    let e : sum_clusters G.last (λ c. hit c x + occ c xs) ≡ sum_clusters G.last (λ c. hit c x) + sum_clusters G.last (λ c. occ c xs) = sum_add (G.last - 1) (λ i. hit (i + 2) x) (λ i. occ (i + 2) xs) in
    omega (arith, e, hit_clusters G x (r x (inl refl)), occ_clusters G xs (λ a m. r a (inr m)))

-- a list of clusters without repetition is no longer than the volume
pub pigeon : (G : Geometry) (cs : List ℕ) → ((a : ℕ) → a ∈ cs → Link G.last a) → Once cs → length cs ≤ G.last - 1
pigeon G cs r o =
    omega (arith, occ_clusters G cs r, sum_le (G.last - 1) (λ i. occ (i + 2) cs) (λ i. 1) (λ i k. o (i + 2)), sum_one (G.last - 1))
