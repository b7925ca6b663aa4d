-- A chain in the document's words, by index, is the same as Chain.
use Rattle.std.specs.Prelude.{ℕ, zero, suc, ◌+◌, ◌≤◌, ◌<◌, ◌≡◌, refl, ◌⊎◌, List, [], ◌∷◌, length, get_or}
use Rattle.std.proofs.Common.{arith, eq-zero-or-pos, sym, ap, ◌∙◌, inl, inr}
use Rattle.chains.specs.Sizes.{clusters_for}
use Rattle.chains.specs.Values.{Link, End}
use Rattle.chains.specs.Aids.Chain.{After, Chain}
use Rattle.sound.specs.Files.{Clusters, FileClusters, none_of_it, enough}
use Rattle.chains.specs.Aids.Holders.{Owns, file_holder}
use Rattle.chains.proofs.Laws.Chain.{leads_next}
use Rattle.chains.proofs.Laws.Sizes.{clusters_some, fits_empty, fits_from, fits_least}

next : (i : ℕ) → i + 1 ≡ suc i
next i = omega arith

after_clusters : (last : ℕ) (f : ℕ → ℕ) (c : ℕ) (cs : List ℕ) → Link last c → After last f c cs → Clusters last f c (c ∷ cs)
after_clusters last f c [] l p = record {
  from_start = refl;
  in_range = λ i k. let e : i ≡ 0 = omega arith in rw e l;
  naming = λ i k. absurd (omega arith);
  ending = λ i k. let e : i ≡ 0 = omega arith in rw e p;
}
after_clusters last f c (d ∷ ds) l p =
    let r = after_clusters last f d ds p.1 p.2 in
    record {
      from_start = refl;
      in_range = λ i. elim i as (λ n. n < length (c ∷ (d ∷ ds)) → Link last (get_or (c ∷ (d ∷ ds)) n 0)) [ zero ↦ λ k. l | suc j ↦ λ k. r.in_range j (omega arith) ];
      naming = leads_next last f c (c ∷ (d ∷ ds)) (refl, l, p);
      ending = λ i. elim i as (λ n. n + 1 ≡ length (c ∷ (d ∷ ds)) → End (f (get_or (c ∷ (d ∷ ds)) n 0))) [ zero ↦ λ k. absurd (omega arith) | suc j ↦ λ k. r.ending j (omega arith) ];
    }

clusters_after : (last : ℕ) (f : ℕ → ℕ) (c : ℕ) (cs : List ℕ) → Clusters last f c (c ∷ cs) → After last f c cs
clusters_after last f c [] r = r.ending 0 refl
clusters_after last f c (d ∷ ds) r = (
  r.naming 0 (omega arith),
  r.in_range 1 (omega arith),
  clusters_after last f d ds (record {
    from_start = refl;
    in_range = λ i k. r.in_range (suc i) (omega arith);
    naming = λ i k. r.naming (suc i) (omega arith) ∙ ap (λ (x : ℕ). get_or (c ∷ (d ∷ ds)) x 0) (next (suc i)) ∙ sym (ap (λ (x : ℕ). get_or (d ∷ ds) x 0) (next i));
    ending = λ i k. r.ending (suc i) (omega arith);
  }),
)

pub chain_clusters : (last : ℕ) (f : ℕ → ℕ) (c : ℕ) (cs : List ℕ) → 0 < length cs → Chain last f c cs → Clusters last f c cs
chain_clusters last f c [] n p = absurd (omega arith)
chain_clusters last f c (d ∷ ds) n p = rw p.0 (after_clusters last f d ds p.1 p.2)

pub clusters_chain : (last : ℕ) (f : ℕ → ℕ) (c : ℕ) (cs : List ℕ) → 0 < length cs → Clusters last f c cs → Chain last f c cs
clusters_chain last f c [] n r = absurd (omega arith)
clusters_chain last f c (x ∷ xs) n r = (sym r.from_start, r.in_range 0 (omega arith), clusters_after last f x xs (rw (sym r.from_start) at r))

-- ---- what a file owns

pub owns_file : (last cb : ℕ) → 0 < cb → (f : ℕ → ℕ) (st sz : ℕ) (cs : List ℕ) → Owns last f (file_holder cb st sz) cs → FileClusters last cb f st sz cs
owns_file last cb p f st sz cs o = go cs (eq-zero-or-pos sz) o.chain (fits_least cb sz (length cs) o.long)
  where
    go : (cs : List ℕ) → (sz ≡ 0) ⊎ (0 < sz) → Chain last f st cs → clusters_for cb sz ≤ length cs → FileClusters last cb f st sz cs
    go [] (inl e) c n = none_of_it e c refl
    go [] (inr k) c n = absurd (omega (arith, clusters_some cb p sz k))
    go (x ∷ xs) k c n = enough (omega arith) n (chain_clusters last f st (x ∷ xs) (omega arith) c)

pub file_owns : (last cb : ℕ) → 0 < cb → (f : ℕ → ℕ) (st sz : ℕ) (cs : List ℕ) → FileClusters last cb f st sz cs → Owns last f (file_holder cb st sz) cs
file_owns last cb p f st sz cs (none_of_it e z q) = rw (e, z, q) (record { chain = refl; long = fits_empty cb p })
file_owns last cb p f st sz cs (enough k n c) = record { chain = clusters_chain last f st cs k c; long = fits_from cb sz (length cs) n }
