-- Who owns a chain owns one list only; what the lists of a sound family are together.
use Rattle.std.specs.Prelude.{ℕ, ◌*◌, ◌≤◌, ◌≡◌, true, length}
use native.Mathlib.Omega.{arith}
use Rattle.std.proofs.Common.{mul-le-mul_right, sym, subst, eq-eqb}
use Rattle.std.proofs.Math.Path.{refl}
use mathlib.Core.List.{List, [], ◌∷◌}
use Rattle.chains.specs.Lists.{◌∈◌}
use Rattle.chains.specs.Aids.Lists.{occ, Once, joined}
use Rattle.chains.specs.Sizes.{clusters_for}
use Rattle.chains.specs.Aids.Sizes.{fits, Geometry}
use Rattle.chains.specs.Values.{Link, Used}
use Rattle.chains.specs.Aids.Holders.{Holder, NamesAll, Owns, FitTogether, file_holder, nobody}
use Rattle.chains.proofs.Laws.Lists.{dec_mem, hit_same, mem_joined, mem_occ, occ_append, occ_not}
use Rattle.chains.proofs.Laws.Sizes.{clusters_hold, fits_least}
use Rattle.chains.proofs.Laws.Chain.{chain_mem, chain_once, chain_same}

pub owns_same : (G : Geometry) (f : ℕ → ℕ) (h : Holder) (cs ds : List ℕ) → Owns G.last f h cs → Owns G.last f h ds → cs ≡ ds
owns_same G f h cs ds o p = chain_same G f h.start cs ds o.chain p.chain

pub nobody_owns : (G : Geometry) (f : ℕ → ℕ) → Owns G.last f nobody []
nobody_owns G f = record { chain = refl; long = eq-eqb 0 0 refl }

pub owns_nobody : (G : Geometry) (f : ℕ → ℕ) (h : Holder) (cs : List ℕ) → h ≡ nobody → Owns G.last f h cs → cs ≡ []
owns_nobody G f h cs e o = owns_same G f nobody cs [] (subst (λ (x : Holder). Owns G.last f x cs) e o) (nobody_owns G f)

-- ---- a file

pub file_allows : (last cb : ℕ) (f : ℕ → ℕ) (h : Holder) (cs : List ℕ) (st sz : ℕ) → h ≡ file_holder cb st sz → Owns last f h cs → fits cb sz (length cs) ≡ true
file_allows last cb f h cs st sz is o = subst (λ (x : Holder). x.allows (length cs) ≡ true) is o.long

-- its clusters have room for its bytes
pub file_fits : (G : Geometry) (f : ℕ → ℕ) (h : Holder) (cs : List ℕ) (st sz : ℕ) → h ≡ file_holder G.cb st sz → Owns G.last f h cs → sz ≤ length cs * G.cb
file_fits G f h cs st sz is o =
    let a : clusters_for G.cb sz * G.cb ≤ length cs * G.cb = mul-le-mul_right G.cb (fits_least G.cb sz (length cs) (file_allows G.last G.cb f h cs st sz is o)) in
    omega (arith, clusters_hold G.cb G.wide sz)

-- ---- the lists of a sound family

module _ (G : Geometry) (f : ℕ → ℕ) (h : ℕ → Holder) (χ : ℕ → List ℕ) (v : FitTogether G.last f h χ) where
  pub once : (i : ℕ) → Once (χ i)
  once i c = chain_once G f (h i).start (χ i) (v.owns i).chain c

  pub in_range : (i c : ℕ) → c ∈ χ i → Link G.last c
  in_range i c m = (chain_mem G f (h i).start (χ i) (v.owns i).chain c m).0

  pub in_use : (i c : ℕ) → c ∈ χ i → Used G.last (f c)
  in_use i c m = (chain_mem G f (h i).start (χ i) (v.owns i).chain c m).1

  -- lists of different holders together have no repetition
  pub joined_once : (is : List ℕ) → Once is → Once (joined χ is)
  unfolding joined occ
  joined_once [] e c = omega arith
  joined_once (i ∷ is) e c = elim (dec_mem c (χ i)) [
    | no n ↦ omega (arith, occ_append c (χ i) (joined χ is), occ_not c (χ i) n, joined_once is (λ j. omega (arith, e j)) c)
    | yes m ↦
        let z : occ c (joined χ is) ≡ 0 = occ_not c (joined χ is) (λ k.
        let r = mem_joined χ is c k in
        let q : i ≡ r.0 = v.apart i r.0 c m r.2 in
        omega (arith, e i, hit_same i i refl, mem_occ i is (subst (λ (x : ℕ). x ∈ is) (sym q) r.1))) in
        omega (arith, occ_append c (χ i) (joined χ is), once i c)
  ]

  -- a list outside of which nobody is names every holder that has clusters
  pub sound_listed : (is : List ℕ) → ((i : ℕ) → ¬ (i ∈ is) → h i ≡ nobody) → (i c : ℕ) → c ∈ χ i → i ∈ is
  sound_listed is out i c m = elim (dec_mem i is) [ yes q ↦ q | no k ↦ absurd (rw (owns_nobody G f (h i) (χ i) (out i k) (v.owns i)) at m) ]

  pub sound_names : (is : List ℕ) → ((i : ℕ) → ¬ (i ∈ is) → h i ≡ nobody) → Once is → NamesAll χ is
  sound_names is out e = record { each = e; all = sound_listed is out }
