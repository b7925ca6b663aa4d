-- The changes that calls make, each a replacement of one holder: its chain grows by free clusters, or is given back.
use Rattle.std.specs.Prelude.{ℕ, ◌+◌, ◌*◌, ◌≤◌, max, ◌≡◌, true, List, [], ◌++◌, length, get_or, take}
use Rattle.std.proofs.Common.{arith, mul-le-mul_right, ◌∙◌, inl, inr, length-take-le}
use Rattle.std.proofs.Math.Path.{refl}
use Rattle.std.proofs.Math.ListN.{length-append}
use Rattle.chains.specs.Aids.Put.{put}
use Rattle.chains.specs.Aids.Lists.{occ, Once}
use Rattle.chains.specs.Sizes.{clusters_for}
use Rattle.chains.specs.Aids.Sizes.{Geometry, lacking}
use Rattle.chains.specs.Aids.Holders.{Holder, Owns, FitTogether, file_holder}
use Rattle.chains.specs.Aids.Replace.{Replaced}
use Rattle.chains.specs.Free.{free_clusters}
use Rattle.chains.specs.Aids.Free.{Takable}
use Rattle.chains.specs.Aids.Growth.{extended, longer_chain, longer_table, released}
use Rattle.chains.proofs.Laws.Lists.{dec_mem, mem_append, mem_left, mem_right, occ_append, occ_not}
use Rattle.chains.proofs.Laws.Sizes.{clusters_hold, clusters_least, fits_empty, fits_grows}
use Rattle.chains.proofs.Laws.Values.{free_no_use}
use Rattle.chains.proofs.Laws.Holders.{in_use, once}
use Rattle.chains.proofs.Laws.Replace.{replace}
use Rattle.chains.proofs.Laws.Free.{lowest_takable}
use Rattle.chains.proofs.Laws.Growth.{extended_chain, extended_out, released_in, released_out}

module _ (G : Geometry) (f : ℕ → ℕ) (h : ℕ → Holder) (χ : ℕ → List ℕ) (v : FitTogether G.last f h χ) (i : ℕ) where
  -- the chain grows by any clusters that may be taken
  pub grows : (new : List ℕ) → Takable G.last f new → (holder : Holder) → holder.start ≡ get_or (χ i ++ new) 0 0 → holder.allows (length (χ i) + length new) ≡ true
      → Replaced G.last f (extended f (χ i) new) holder (χ i) (χ i ++ new)
  grows new t holder st fit = record {
    owns = record {
      chain = rw st (extended_chain G f (h i).start (χ i) new (v.owns i).chain t.range both);
      long = rw (length-append (χ i) new) fit;
    };
    keep = λ c k p q. extended_out f (χ i) new c p (λ m. q (mem_right c (χ i) new m));
    freed = λ c k p q. absurd (q (mem_left c (χ i) new p));
    taken = λ c m. elim (mem_append c (χ i) new m) [ inl k ↦ inl k | inr k ↦ inr (t.unused c k) ];
  }
    where
      both : Once (χ i ++ new)
      both a = elim (dec_mem a new) [
        | yes m ↦
            let z : occ a (χ i) ≡ 0 = occ_not a (χ i) (λ k. free_no_use G.last (f a) (t.unused a m) (in_use G f h χ v i a k)) in
            omega (arith, occ_append a (χ i) new, t.each a)
        | no k ↦ omega (arith, occ_append a (χ i) new, occ_not a new k, once G f h χ v i a)
      ]

  -- all clusters are given back
  pub gives_back : (holder : Holder) → Owns G.last (released f (χ i)) holder [] → Replaced G.last f (released f (χ i)) holder (χ i) []
  gives_back holder o = record {
    owns = o;
    keep = λ c k p q. released_out f (χ i) c p;
    freed = λ c k p q. released_in f (χ i) c p;
    taken = λ c m. absurd m;
  }

  -- the holder becomes a file without bytes
  pub emptied : FitTogether G.last (released f (χ i)) (put h i (file_holder G.cb 0 0)) (put χ i [])
  emptied = replace G f (released f (χ i)) h χ v i (file_holder G.cb 0 0) [] (gives_back (file_holder G.cb 0 0) (record { chain = refl; long = fits_empty G.cb G.wide }))

  -- the holder changes and keeps its clusters
  pub keeps : (holder : Holder) → Owns G.last f holder (χ i) → Replaced G.last f f holder (χ i) (χ i)
  keeps holder o = record { owns = o; keep = λ c k p q. refl; freed = λ c k p q. absurd (q p); taken = λ c m. inl m }

-- ---- a holder becomes a file of n bytes: it keeps its clusters, and gets the lowest free ones that it lacks

module _ (G : Geometry) (f : ℕ → ℕ) (h : ℕ → Holder) (χ : ℕ → List ℕ) (v : FitTogether G.last f h χ) (i n : ℕ)
    (room : n ≤ (length (χ i) + length (free_clusters G.last f)) * G.cb) where
  abbrev chain' : List ℕ
  chain' = longer_chain G.last G.cb f (χ i) n

  -- the new clusters
  abbrev new : List ℕ
  new = take (lacking G.cb (χ i) n) (free_clusters G.last f)

  new_length : length (χ i) + length new ≡ max (length (χ i)) (clusters_for G.cb n)
  new_length =
      let k : lacking G.cb (χ i) n ≤ length (free_clusters G.last f) = omega (arith, clusters_least G.cb G.wide n (length (χ i) + length (free_clusters G.last f)) room) in
      omega (arith, length-take-le (lacking G.cb (χ i) n) (free_clusters G.last f) k)

  pub file_grows : Replaced G.last f (longer_table G.last G.cb f (χ i) n) (file_holder G.cb (get_or chain' 0 0) n) (χ i) chain'
  unfolding longer_chain longer_table
  file_grows = grows G f h χ v i new (lowest_takable G f (lacking G.cb (χ i) n)) (file_holder G.cb (get_or (χ i ++ new) 0 0) n) refl
      (rw new_length (fits_grows G.cb n (length (χ i))))

  pub longer_length : length chain' ≡ max (length (χ i)) (clusters_for G.cb n)
  unfolding longer_chain
  longer_length = length-append (χ i) new ∙ new_length

  -- its clusters have room for its bytes
  pub longer_fits : n ≤ length chain' * G.cb
  longer_fits =
      let a : clusters_for G.cb n * G.cb ≤ length chain' * G.cb = mul-le-mul_right G.cb (omega (arith, longer_length)) in
      omega (arith, clusters_hold G.cb G.wide n)
