-- What the walks find is held.
use Rattle.std.specs.Prelude.{ℕ, Bool, ◌≡◌, Result}
use Rattle.std.proofs.Math.Bool.{true, false, cond}
use mathlib.Core.List.{List, []}
use Rattle.std.proofs.Math.Path.{refl, sym, subst}
use Rattle.std.proofs.Common.{ap, ◌∙◌}
use Rattle.std.proofs.Math.ListN.{length}
use Rattle.chains.specs.Aids.Check.{chain_of, ownsb}
use Rattle.chains.specs.Aids.Holders.{nobody}
use Rattle.chains.specs.Aids.Sizes.{Geometry}
use Rattle.chains.proofs.Laws.Check.{says_owned}
use Rattle.chains.proofs.Laws.Sums.{sum_cong}
use Rattle.chains.proofs.Laws.Tests.{by_test, says_true, true_says, clash}
use Rattle.search.specs.Search.{Nowhere}
use Rattle.diskette.specs.Aids.Usable.{Usable}
use Rattle.diskette.specs.Places.{cluster_bytes, last_cluster, root_entries, slot_at}
use Rattle.diskette.specs.declared.Kind.{Kind}
use Rattle.fields.specs.Fields.{start_of, size_of}
use Rattle.directory.specs.Slots.{standing_of, is_plain}
use Rattle.chaincheck.specs.Aids.Held.{chain_at, held_slot}
use Rattle.chaincheck.specs.Aids.Entries.{holder_at}
use Rattle.chaincheck.proofs.Laws.SlotTurns.{holder_none, chain_of_lem}
use Rattle.sound.specs.Counts.{is_file, file_count, free_of, held_by, held_of, bad_of, reserved_of}
use Rattle.sound.specs.Files.{value_of, ChainOf, AreChains}
use Rattle.sound.specs.Findings.{BadChain}
use Rattle.sound.specs.Aids.FromFinding.{Counted}
use Rattle.sound.specs.Aids.Judged.{sound_with, held_found, voice}
use Rattle.sound.proofs.Laws.Chains.{file_owns_chain}
use Rattle.sound.proofs.Laws.Geometry.{geometry}
use Rattle.sound.proofs.Laws.Sound.{held_same}
use Rattle.sound.specs.declared.Counts.{Counts}
use Rattle.sound.specs.declared.Finding.{Finding}

module _ (k : Kind) (u : Usable k) (l : List ℕ) where
  G : Geometry
  G = geometry k u

  -- ---- the walks

  abbrev found : ℕ → List ℕ
  found s = chain_at (last_cluster k) (cluster_bytes k) l (slot_at k s)

  pub found_chains : Nowhere (BadChain k l) → AreChains k l found
  unfolding chain_at G
  found_chains n s i =
      let h = holder_at (cluster_bytes k) l (slot_at k s) in
      let owned = file_owns_chain k u l (holder_at (cluster_bytes k) l) (λ t j. refl) s in
      by_test (ownsb (last_cluster k) (value_of k l) h)
      (λ e.
      let w = says_true (says_owned G (value_of k l) h) e in
      let c : chain_of (last_cluster k) (value_of k l) h ≡ w.0 = chain_of_lem G (value_of k l) h w.0 w.1.chain in
      subst (ChainOf k l s) (sym c) ((owned w.0 i).0 w.1))
      (λ e. absurd (n s (i, λ cs c. clash (true_says (says_owned G (value_of k l) h) (cs, (owned cs i).1 c)) e)))

  -- where there is no file they find nothing
  pub held_found_lem : held_of k l found ≡ held_found k l
  unfolding held_by held_slot is_file chain_at G
  held_found_lem = sum_cong (root_entries k) _ _ (λ s h. by s (is_plain (standing_of l (slot_at k s))) refl)
    where
      by : (s : ℕ) (b : Bool) → is_plain (standing_of l (slot_at k s)) ≡ b → cond b (length (found s)) 0 ≡ length (found s)
      by s true e = refl
      by s false e =
          let a = slot_at k s in
          let c : chain_of (last_cluster k) (value_of k l) (holder_at (cluster_bytes k) l a) ≡ []
          = rw (holder_none (cluster_bytes k) (start_of l a) (size_of l a) (standing_of l a) e) (chain_of_lem G (value_of k l) nobody [] refl) in
          sym (ap length c)

  -- ---- the counts

  abbrev with : ℕ → Result Counts Finding
  with held = sound_with (file_count k l) (free_of k l) held (bad_of k l) (reserved_of k l)

  pub found_counted : Nowhere (BadChain k l) → (v : Result Counts Finding) → v ≡ (voice k l).fine → Counted k l v
  found_counted n v e = (found, found_chains n, e ∙ ap with (sym held_found_lem))

  pub counted_only : (v w : Result Counts Finding) → Counted k l v → Counted k l w → v ≡ w
  counted_only v w x y = x.2 ∙ ap with (held_same k u l x.0 y.0 x.1 y.1) ∙ sym y.2
