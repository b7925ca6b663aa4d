-- Of a sound volume free, held, bad and reserved together are all clusters.
use Rattle.std.specs.Prelude.{ℕ, ◌+◌, ◌<◌, List, ◌≡◌}
use native.Mathlib.Omega.{arith}
use Rattle.std.proofs.Math.Path.{ap}
use Rattle.std.proofs.Common.{◌∙◌}
use Rattle.std.proofs.Math.ListN.{length}
use Rattle.chains.specs.Aids.Check.{chain_of}
use Rattle.chains.specs.Aids.Holders.{Holder}
use Rattle.chains.specs.Aids.Sums.{sum_over}
use Rattle.chains.proofs.Laws.Counts.{all_clusters}
use Rattle.chains.proofs.Laws.Rows.{rows_sum}
use Rattle.chains.proofs.Laws.Sums.{sum_cong}
use Rattle.diskette.specs.Aids.Usable.{Usable}
use Rattle.diskette.specs.Places.{cluster_bytes, clusters, last_cluster, root_entries, slot_at}
use Rattle.diskette.specs.declared.Kind.{Kind}
use Rattle.chaincheck.specs.Aids.Held.{chain_at, held_slot}
use Rattle.sound.specs.Counts.{free_of, held_of, bad_of, reserved_of}
use Rattle.sound.specs.Files.{value_of, AreChains}
use Rattle.sound.specs.Aids.Holders.{root_list, root_holders, root_chains}
use Rattle.sound.specs.Aids.Judged.{held_found}
use Rattle.sound.specs.Sound.{Sound}
use Rattle.sound.proofs.Laws.Geometry.{geometry}
use Rattle.sound.proofs.Laws.Held.{found_chains, held_found_lem}
use Rattle.sound.proofs.Laws.Holders.{root_holder}
use Rattle.sound.proofs.Laws.Sound.{held_same, sound_theory, sound_no_finding}
use Rattle.sound.proofs.Laws.Theory.{root_names}

module _ (k : Kind) (u : Usable k) (l : List ℕ) where
  -- held is the sum of the lengths of the theory's chains
  held_chains : sum_over (root_list k) (λ a. length (root_chains k l a)) ≡ held_found k l
  unfolding root_chains held_slot chain_at
  held_chains =
      rows_sum (slot_at k) (λ a. length (root_chains k l a)) 0 (root_entries k)
      ∙ sum_cong (root_entries k) _ _ (λ s i. ap (λ (x : ℕ). length (root_chains k l (slot_at k x))) (zero_more s) ∙ slot_length s i)
    where
      zero_more : (s : ℕ) → s + 0 ≡ s
      zero_more s = omega arith

      slot_length : (s : ℕ) → s < root_entries k → length (root_chains k l (slot_at k s)) ≡ held_slot (last_cluster k) (cluster_bytes k) l (slot_at k) s
      slot_length s i = ap (λ (h : Holder). length (chain_of (last_cluster k) (value_of k l) h)) (root_holder k l s i)

  pub total : Sound k l → (lists : ℕ → List ℕ) → AreChains k l lists → free_of k l + held_of k l lists + bad_of k l + reserved_of k l ≡ clusters k
  total v lists p =
      let t = sound_theory k u l v.0 v.1 in
      let n = sound_no_finding k u l v.0 v.1 in
      let e : held_of k l lists ≡ held_found k l = held_same k u l lists _ p (found_chains k u l n.chains) ∙ held_found_lem k u l in
      omega (arith, e, held_chains, all_clusters (geometry k u) (value_of k l) (root_holders k l) (root_chains k l) t (root_list k) (root_names k u l (root_chains k l) t))
