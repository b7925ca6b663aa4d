-- The answer from finding 5 on: only one fits, it is what is computed, and it is fine exactly where table and holders are sound.
use Rattle.std.specs.Prelude.{ℕ, ◌<◌, ◌≡◌, refl, Bool, List, [], Option}
use Rattle.std.proofs.Math.Decide.{ℕ_discrete}
use Rattle.std.proofs.Common.{sym, subst}
use Rattle.std.proofs.Math.Dec.{ltb}
use Rattle.chains.specs.Lists.{◌∈◌}
use Rattle.chains.specs.Aids.Lists.{Once, joined}
use Rattle.chains.specs.Aids.Sizes.{Geometry}
use Rattle.chains.specs.Aids.Holders.{Holder, Owns, FitTogether, nobody}
use Rattle.search.specs.Search.{Nowhere}
use Rattle.chains.specs.Aids.Verdict.{Finds}
use Rattle.chains.specs.Aids.Findings.{BadChain, NoValue, FromChains, FromLost, FromTwo, InChain, InTwo, Lost, Voice, holders_of}
use Rattle.chains.specs.Aids.Check.{chain_marks, chain_of, check_chains, check_lost, check_two}
use Rattle.chains.proofs.Laws.Tests.{says_dec}
use Rattle.chains.proofs.Laws.Lists.{dec_mem, joined_mem, mem_joined}
use Rattle.chains.proofs.Laws.Values.{says_valid}
use Rattle.chains.proofs.Laws.Holders.{nobody_owns, owns_same}
use Rattle.chains.proofs.Laws.Verdict.{or_else_lem}
use Rattle.chains.proofs.Laws.Check.{found_in_two, found_lost, holders_in, in_chain, owned_chain_of, owns_chain_of, says_owned}

module _ {P A : Type 0} (before : P → P → Bool) (G : Geometry) (f : ℕ → ℕ) (h : ℕ → Holder) (es : List (P × ℕ)) (W : Voice P A) where
  abbrev is : List ℕ
  is = holders_of es

  abbrev χ : ℕ → List ℕ
  χ i = chain_of G.last f (h i)

  -- none of finding 5: each holder has its chain
  pub good_all : Nowhere (BadChain G.last f h es) → (i : ℕ) → i ∈ is → Owns G.last f (h i) (χ i)
  good_all n i m = let r = holders_in es i m in elim (says_dec (says_owned G f (h i))) [
    | yes o ↦ owned_chain_of G f (h i) o.0 o.1
    | no k ↦ absurd (n r.0 (i, r.1, λ cs o. k (cs, o)))
  ]

  check_two_lem : (size : ℕ) → G.last < size → Once is → Nowhere (BadChain G.last f h es) → FromTwo G.last f h es W (check_two G.last f (chain_marks size G.last f h is) W)
  unfolding check_two check_lost
  check_two_lem size big e n =
      or_else_lem ltb (InTwo G.last f h is) W.in_two (FromLost G.last f h es W) _ (check_lost G.last f (chain_marks size G.last f h is) W) (found_in_two G f h is (good_all n) size big e) (λ n'.
      or_else_lem ltb (Lost G.last f h is) W.lost (λ a. a ≡ W.fine) _ W.fine (found_lost G f h is (good_all n) size big) (λ n''. refl))

  -- m need be the marks only where all chains are good
  pub check_chains_lem : (size : ℕ) → G.last < size → Once is → (o : Option P) (m : List ℕ) → Finds before (BadChain G.last f h es) o → (Nowhere (BadChain G.last f h es) → m ≡ chain_marks size G.last f h is)
      → FromChains before G.last f h es W (check_chains G.last f m W o)
  unfolding check_chains
  check_chains_lem size big e o m d same = or_else_lem before (BadChain G.last f h es) W.bad_chain (FromTwo G.last f h es W) o (check_two G.last f m W) d (λ n. rw (same n) (check_two_lem size big e n))

  -- ---- fine is sound: there is nobody outside the list

  module _ (out : (i : ℕ) → ¬ (i ∈ is) → h i ≡ nobody) where
    outside : (i : ℕ) → ¬ (i ∈ is) → χ i ≡ []
    outside i n = rw (out i n) (sym (owns_chain_of G f nobody [] (nobody_owns G f)))

    pub none_sound : Nowhere (NoValue G.last f) → Nowhere (BadChain G.last f h es) → Nowhere (InTwo G.last f h is) → Nowhere (Lost G.last f h is) → FitTogether G.last f h χ
    none_sound n3 n5 n6 n7 = record {
      valid = λ c l. elim (says_dec (says_valid G.last (f c))) [ yes x ↦ x | no x ↦ absurd (n3 c (l, x)) ];
      owns = whole;
      apart = λ i j c m n. elim (ℕ_discrete i j) [
        | yes e ↦ e
        | no ne ↦ absurd (n6 c (i, j, ne, listed i c m, listed j c n, (χ i, whole i, m), (χ j, whole j, n)))
      ];
      cover = λ c l u. elim (dec_mem c (joined χ is)) [
        | yes m ↦ let r = mem_joined χ is c m in (r.0, r.2)
        | no k ↦ absurd (n7 c (l, u, λ i m r. k (joined_mem χ is c i m (in_chain G f h i c r))))
      ];
    }
      where
        whole : (i : ℕ) → Owns G.last f (h i) (χ i)
        whole i = elim (dec_mem i is) [
          | yes m ↦ good_all n5 i m
          | no k ↦ rw (outside i k, out i k) (nobody_owns G f)
        ]

        listed : (i c : ℕ) → c ∈ χ i → i ∈ is
        listed i c m = elim (dec_mem i is) [ yes q ↦ q | no k ↦ absurd (rw (outside i k) at m) ]

    -- ---- and sound is fine

    module _ (χ' : ℕ → List ℕ) (v : FitTogether G.last f h χ') where
      of : (i c : ℕ) → InChain G.last f h i c → c ∈ χ' i
      of i c r = subst (λ (ds : List ℕ). c ∈ ds) (owns_same G f (h i) r.0 (χ' i) r.1 (v.owns i)) r.2
