-- The counts after one holder was replaced.
use Rattle.std.specs.Prelude.{ℕ, ◌+◌, ◌-◌, ◌≡◌, Bool, List, length}
use Rattle.std.proofs.Common.{arith, sym, ap, ◌∙◌, inl, inr}
use Rattle.chains.specs.Lists.{◌∈◌}
use Rattle.chains.specs.Aids.Lists.{occ}
use Rattle.chains.specs.Sums.{sum, bit}
use Rattle.chains.specs.Aids.Sums.{sum_clusters}
use Rattle.chains.specs.Aids.Sizes.{Geometry}
use Rattle.chains.specs.Values.{Link, Used, freeb, value_count}
use Rattle.chains.specs.Aids.Values.{OutOfUse}
use Rattle.chains.specs.Aids.Holders.{Holder, FitTogether}
use Rattle.chains.specs.Aids.Replace.{Replaced}
use Rattle.chains.proofs.Laws.Lists.{dec_mem, mem_occ, occ_not}
use Rattle.chains.proofs.Laws.Sums.{occ_clusters, sum_add, sum_cong}
use Rattle.chains.proofs.Laws.Values.{count_sum, free_one, used_no_free}
use Rattle.chains.proofs.Laws.Chain.{chain_mem, chain_once}
use Rattle.chains.proofs.Laws.Holders.{in_range, in_use, once}

module _ (G : Geometry) (f g : ℕ → ℕ) (h : ℕ → Holder) (χ : ℕ → List ℕ) (v : FitTogether G.last f h χ) (i : ℕ) (new : Holder) (ds : List ℕ) (r : Replaced G.last f g new (χ i) ds) where
  was : (c : ℕ) → c ∈ χ i → Used G.last (f c)
  was c m = in_use G f h χ v i c m

  is : (c : ℕ) → c ∈ ds → Used G.last (g c)
  is c d = (chain_mem G g new.start ds r.owns.chain c d).1

  -- out of use: cluster by cluster the same
  module _ (t : ℕ → Bool) (o : OutOfUse G.last t) where
    same : (c : ℕ) → Link G.last c → t (g c) ≡ t (f c)
    same c k = elim (dec_mem c ds) [
      | yes d ↦ o.not_used (g c) (is c d) ∙ sym (elim (r.taken c d) [ inl m ↦ o.not_used (f c) (was c m) | inr e ↦ o.not_free (f c) e ])
      | no nd ↦ elim (dec_mem c (χ i)) [
        | yes m ↦ o.not_free (g c) (r.freed c k m nd) ∙ sym (o.not_used (f c) (was c m))
        | no nm ↦ ap t (r.keep c k nm nd)
      ]
    ]

    pub replace_out_of_use : value_count t G.last g ≡ value_count t G.last f
    replace_out_of_use = count_sum t G.last g ∙ sum_cong (G.last - 1) (λ j. bit (t (g (j + 2)))) (λ j. bit (t (f (j + 2)))) (λ j k. ap bit (same (j + 2) (omega arith))) ∙ sym (count_sum t G.last f)

  -- free: cluster by cluster, so that no list of holders is asked for
  one_more : (c : ℕ) → Link G.last c → bit (freeb (g c)) + occ c ds ≡ bit (freeb (f c)) + occ c (χ i)
  one_more c k = elim (dec_mem c ds) [
    | yes d ↦
        let a : bit (freeb (g c)) ≡ 0 = used_no_free G.last (g c) (is c d) in
        let b : occ c ds ≡ 1 = omega (arith, chain_once G g new.start ds r.owns.chain c, mem_occ c ds d) in
        elim (dec_mem c (χ i)) [
          | yes m ↦ omega (arith, a, b, used_no_free G.last (f c) (was c m), once G f h χ v i c, mem_occ c (χ i) m)
          | no nm ↦ omega (arith, a, b, occ_not c (χ i) nm, elim (r.taken c d) as (λ _. bit (freeb (f c)) ≡ 1) [ inl m ↦ absurd (nm m) | inr e ↦ free_one (f c) e ])
        ]
    | no nd ↦ elim (dec_mem c (χ i)) [
      | yes m ↦ omega (arith, occ_not c ds nd, free_one (g c) (r.freed c k m nd), used_no_free G.last (f c) (was c m), once G f h χ v i c, mem_occ c (χ i) m)
      | no nm ↦ omega (arith, occ_not c ds nd, occ_not c (χ i) nm, ap (λ (x : ℕ). bit (freeb x)) (r.keep c k nm nd))
    ]
  ]

  pub replace_free : value_count freeb G.last g + length ds ≡ value_count freeb G.last f + length (χ i)
  replace_free =
      let n : ℕ = G.last - 1 in
      let e : sum n (λ j. bit (freeb (g (j + 2))) + occ (j + 2) ds) ≡ sum n (λ j. bit (freeb (f (j + 2))) + occ (j + 2) (χ i)) = sum_cong n _ _ (λ j k. one_more (j + 2) (omega arith)) in
      let a : sum_clusters G.last (λ c. occ c ds) ≡ length ds = occ_clusters G ds (λ c m. (chain_mem G g new.start ds r.owns.chain c m).0) in
      let b : sum_clusters G.last (λ c. occ c (χ i)) ≡ length (χ i) = occ_clusters G (χ i) (λ c m. in_range G f h χ v i c m) in
      omega (
        arith,
        e,
        a,
        b,
        count_sum freeb G.last f,
        count_sum freeb G.last g,
        sum_add n (λ j. bit (freeb (g (j + 2)))) (λ j. occ (j + 2) ds),
        sum_add n (λ j. bit (freeb (f (j + 2)))) (λ j. occ (j + 2) (χ i)),
      )
