-- A sound volume with one holder replaced is sound.
use Rattle.std.specs.Prelude.{ℕ, ◌≡◌, refl, ◌≢◌, List}
use Rattle.std.proofs.Common.{sym, ◌∙◌, inl, inr}
use Rattle.chains.specs.Aids.Put.{put}
use Rattle.chains.specs.Lists.{◌∈◌}
use Rattle.chains.specs.Aids.Sizes.{Geometry}
use Rattle.chains.specs.Values.{Link, Used, Valid, free, used}
use Rattle.chains.specs.Aids.Chain.{Chain}
use Rattle.chains.specs.Aids.Holders.{Holder, FitTogether}
use Rattle.chains.specs.Aids.Replace.{Replaced}
use Rattle.chains.proofs.Laws.Put.{put_cases, put_other, put_same}
use Rattle.chains.proofs.Laws.Lists.{dec_mem}
use Rattle.chains.proofs.Laws.Values.{free_no_use}
use Rattle.chains.proofs.Laws.Chain.{chain_frame, chain_mem}
use Rattle.chains.proofs.Laws.Holders.{in_range, in_use}

module _ (G : Geometry) (f g : ℕ → ℕ) (h : ℕ → Holder) (χ : ℕ → List ℕ) (v : FitTogether G.last f h χ) (i : ℕ) (new : Holder) (ds : List ℕ) (r : Replaced G.last f g new (χ i) ds) where
  -- a chain of another holder has no cluster of the new list
  pub foreign : (t c : ℕ) → t ≢ i → c ∈ χ t → ¬ (c ∈ ds)
  foreign t c n m d = elim (r.taken c d) [
    | inl k ↦ n (v.apart t i c m k)
    | inr e ↦ free_no_use G.last (f c) e (in_use G f h χ v t c m)
  ]

  pub same_table : (t c : ℕ) → t ≢ i → c ∈ χ t → g c ≡ f c
  same_table t c n m = r.keep c (in_range G f h χ v t c m) (λ k. n (v.apart t i c m k)) (foreign t c n m)

  pub same_chain : (t : ℕ) → t ≢ i → Chain G.last g (h t).start (χ t)
  same_chain t n = chain_frame G f g (h t).start (χ t) (λ c m. same_table t c n m) (v.owns t).chain

  new_valid : (c : ℕ) → Link G.last c → Valid G.last (g c)
  new_valid c k = elim (dec_mem c ds) [
    | yes d ↦ used (chain_mem G g new.start ds r.owns.chain c d).1
    | no nd ↦ elim (dec_mem c (χ i)) [
      | yes m ↦ free (r.freed c k m nd)
      | no nm ↦ rw (r.keep c k nm nd) (v.valid c k)
    ]
  ]

  new_apart : (t u c : ℕ) → c ∈ put χ i ds t → c ∈ put χ i ds u → t ≡ u
  new_apart t u c m n = elim (put_cases χ i ds t) [
    | inl a ↦ elim (put_cases χ i ds u) [
      | inl b ↦ a.0 ∙ sym b.0
      | inr b ↦ absurd (foreign u c b.0 (rw b.1 at n) (rw a.1 at m))
    ]
    | inr a ↦ elim (put_cases χ i ds u) [
      | inl b ↦ absurd (foreign t c a.0 (rw a.1 at m) (rw b.1 at n))
      | inr b ↦ v.apart t u c (rw a.1 at m) (rw b.1 at n)
    ]
  ]

  new_cover : (c : ℕ) → Link G.last c → Used G.last (g c) → (t : ℕ) × (c ∈ put χ i ds t)
  new_cover c k u = elim (dec_mem c ds) [
    | yes d ↦ (i, rw (put_same χ i ds i refl) d)
    | no nd ↦ elim (dec_mem c (χ i)) [
      | yes m ↦ absurd (free_no_use G.last (g c) (r.freed c k m nd) u)
      | no nm ↦
          let o = v.cover c k (rw (r.keep c k nm nd) at u) in
          (o.0, rw (put_other χ i ds o.0 (λ e. nm (rw e at o.1))) o.1)
    ]
  ]

  -- the new family may be any that is new at i and as before elsewhere
  pub replaced : (h' : ℕ → Holder) → h' i ≡ new → ((t : ℕ) → t ≢ i → h' t ≡ h t) → FitTogether G.last g h' (put χ i ds)
  replaced h' here there = record {
    valid = new_valid;
    owns = λ t. elim (put_cases χ i ds t) [
      | inl a ↦ rw (a.1, a.0, here) r.owns
      | inr a ↦ rw (a.1, there t a.0) (record { chain = same_chain t a.0; long = (v.owns t).long })
    ];
    apart = new_apart;
    cover = new_cover;
  }

  pub replace : FitTogether G.last g (put h i new) (put χ i ds)
  replace = replaced (put h i new) (put_same h i new i refl) (λ t n. put_other h i new t n)
