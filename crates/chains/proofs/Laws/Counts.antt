-- Free, held, bad and reserved are all clusters.
use Rattle.std.specs.Prelude.{ℕ, ◌+◌, ◌-◌, ◌≡◌, List, length}
use Rattle.std.proofs.Common.{arith, ap, inl, inr}
use Rattle.chains.specs.Aids.Lists.{occ, joined}
use Rattle.chains.specs.Sums.{sum, bit}
use Rattle.chains.specs.Aids.Sums.{sum_over, sum_clusters}
use Rattle.chains.specs.Aids.Sizes.{Geometry}
use Rattle.chains.specs.Values.{Link, Used, Valid, bad, badb, free, freeb, reserved, reservedb, used, value_count}
use Rattle.chains.specs.Aids.Holders.{Holder, NamesAll, FitTogether}
use Rattle.chains.proofs.Laws.Lists.{joined_mem, mem_joined, mem_occ, occ_not}
use Rattle.chains.proofs.Laws.Sums.{joined_length, occ_clusters, sum_add, sum_cong, sum_one}
use Rattle.chains.proofs.Laws.Values.{bad_out_of_use, count_sum, free_no_use, free_none, free_one, reserved_out_of_use, says_bad, says_reserved, used_no_free}
use Rattle.chains.proofs.Laws.Tests.{false_says, true_says}
use Rattle.chains.proofs.Laws.Holders.{in_range, in_use, joined_once}

module _ (G : Geometry) (f : ℕ → ℕ) (h : ℕ → Holder) (χ : ℕ → List ℕ) (v : FitTogether G.last f h χ) (is : List ℕ) (l : NamesAll χ is) where
  in_one : (c : ℕ) → Link G.last c → Used G.last (f c) → occ c (joined χ is) ≡ 1
  in_one c i u =
      let r = v.cover c i u in
      omega (arith, joined_once G f h χ v is l.each c, mem_occ c (joined χ is) (joined_mem χ is c r.0 (l.all r.0 c r.1) r.1))

  in_none : (c : ℕ) → ¬ Used G.last (f c) → occ c (joined χ is) ≡ 0
  in_none c n = occ_not c (joined χ is) (λ m. let r = mem_joined χ is c m in n (in_use G f h χ v r.0 c r.2))

  -- each cluster is free, or in one chain, or bad, or reserved
  one_each : (c : ℕ) → Link G.last c → bit (freeb (f c)) + (occ c (joined χ is) + (bit (badb (f c)) + bit (reservedb (f c)))) ≡ 1
  one_each c i = go (v.valid c i)
    where
      go : Valid G.last (f c) → bit (freeb (f c)) + (occ c (joined χ is) + (bit (badb (f c)) + bit (reservedb (f c)))) ≡ 1
      go (free e) =
          omega (arith, free_one (f c) e, in_none c (free_no_use G.last (f c) e), ap bit ((bad_out_of_use G).not_free (f c) e), ap bit ((reserved_out_of_use G).not_free (f c) e))
      go (used u) =
          omega (arith, used_no_free G.last (f c) u, in_one c i u, ap bit ((bad_out_of_use G).not_used (f c) u), ap bit ((reserved_out_of_use G).not_used (f c) u))
      go (bad b) =
          omega (
            arith,
            free_none (f c) (λ e. omega arith),
            in_none c (λ u. elim u [ inl x ↦ omega (arith, G.small) | inr x ↦ omega arith ]),
            ap bit (true_says (says_bad (f c)) b),
            ap bit (false_says (says_reserved (f c)) (λ r. omega arith)),
          )
      go (reserved r) =
          omega (
            arith,
            free_none (f c) (λ e. omega arith),
            in_none c (λ u. elim u [ inl x ↦ omega (arith, G.small) | inr x ↦ omega arith ]),
            ap bit (false_says (says_bad (f c)) (λ b. omega arith)),
            ap bit (true_says (says_reserved (f c)) r),
          )

  -- free, held, bad and reserved are all clusters; held is the sum of the chains' lengths
  pub all_clusters : value_count freeb G.last f + (sum_over is (λ i. length (χ i)) + (value_count badb G.last f + value_count reservedb G.last f)) ≡ G.last - 1
  all_clusters =
      let a : ℕ → ℕ = λ i. bit (freeb (f (i + 2))) in
      let t : ℕ → ℕ = λ i. occ (i + 2) (joined χ is) in
      let b : ℕ → ℕ = λ i. bit (badb (f (i + 2))) in
      let d : ℕ → ℕ = λ i. bit (reservedb (f (i + 2))) in
      let e : sum (G.last - 1) (λ i. a i + (t i + (b i + d i))) ≡ sum (G.last - 1) (λ i. 1) = sum_cong (G.last - 1) _ _ (λ i k. one_each (i + 2) (omega arith)) in
      let o : sum_clusters G.last (λ c. occ c (joined χ is)) ≡ length (joined χ is) = occ_clusters G (joined χ is) (λ c m. let r = mem_joined χ is c m in in_range G f h χ v r.0 c r.2) in
      omega (
        arith,
        e,
        sum_one (G.last - 1),
        sum_add (G.last - 1) a (λ i. t i + (b i + d i)),
        sum_add (G.last - 1) t (λ i. b i + d i),
        sum_add (G.last - 1) b d,
        o,
        joined_length χ is,
        count_sum freeb G.last f,
        count_sum badb G.last f,
        count_sum reservedb G.last f,
      )
