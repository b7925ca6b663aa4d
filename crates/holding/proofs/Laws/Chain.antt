-- A file of a ready volume has a chain, which holds it.
use Rattle.std.specs.Prelude.{ℕ, ◌+◌, ◌*◌, ◌≤◌, ◌<◌, List, ◌≡◌, refl, length}
use Rattle.std.proofs.Common.{arith, sym, subst}
use Rattle.chains.specs.Aids.Chain.{Chain}
use Rattle.chains.specs.Aids.Holders.{Holder, Owns, file_holder}
use Rattle.sound.proofs.Laws.Clusters.{file_owns}
use Rattle.chains.proofs.Laws.Chain.{chain_length}
use Rattle.chains.proofs.Laws.Holders.{file_fits}
use Rattle.chains.proofs.Laws.Tests.{says_true}
use Rattle.contents.proofs.Laws.Chain.{chain_is}
use Rattle.diskette.specs.Places.{first_data, cluster_bytes, clusters, last_cluster, root_entries, slot_at}
use Rattle.diskette.specs.declared.Kind.{Kind}
use Rattle.fields.specs.Fields.{start_of, size_of}
use Rattle.sound.specs.Files.{value_of, IsFile}
use Rattle.sound.specs.Sound.{Sound}
use Rattle.sound.proofs.Laws.Geometry.{geometry}
use Rattle.sound.proofs.Laws.IsSound.{known_says}
use Rattle.calls.specs.Aids.Ready.{OnVolume}
use Rattle.calls.proofs.Laws.Ready.{on_usable}
use Rattle.calls.proofs.Laws.Files.{slot_within}
use Rattle.holding.specs.Holding.{file_chain}
use Rattle.holding.specs.Aids.Files.{FileAt}
use Rattle.holding.proofs.Laws.Clusters.{on_clusters}

module _ (img : List ℕ) (k : Kind) (v : OnVolume img k) (slot : ℕ) (i : IsFile k img slot) where
  pub file_below : slot ≤ root_entries k
  file_below = let h : slot < root_entries k = i.below in omega arith

  -- its slot fits 32 bits
  pub slot_fits : slot < 4294967296
  slot_fits =
      let h : slot < root_entries k = i.below in
      let r : k.root ≤ 4096 = (on_usable img k v).few_slots in
      omega arith

  pub file_within : (a : ℕ) → a ≡ slot_at k slot → a + 32 ≤ length img
  file_within a e = slot_within img k v slot a i.below e

  abbrev holder : Holder
  holder = file_holder (cluster_bytes k) (start_of img (slot_at k slot)) (size_of img (slot_at k slot))

  sound : Sound k img
  sound = says_true (known_says img k v.known) v.sound

  pub file_owned : Owns (last_cluster k) (value_of k img) holder (file_chain k img (slot_at k slot))
  file_owned =
      let o : Owns (last_cluster k) (value_of k img) holder (sound.0 slot)
      = file_owns (last_cluster k) (cluster_bytes k) (geometry k (on_usable img k v)).wide (value_of k img) _ _ (sound.0 slot) (sound.1.chains slot i) in
      let e = chain_is (512 * first_data k) (cluster_bytes k) (last_cluster k) img (start_of img (slot_at k slot)) (on_clusters img k v) (sound.0 slot) o.chain in
      subst (Owns (last_cluster k) (value_of k img) holder) (sym e) o

  pub file_chain_lem : Chain (last_cluster k) (value_of k img) (start_of img (slot_at k slot)) (file_chain k img (slot_at k slot))
  file_chain_lem = file_owned.chain

  -- the chain has room for the size
  pub file_holds : size_of img (slot_at k slot) ≤ length (file_chain k img (slot_at k slot)) * cluster_bytes k
  file_holds = file_fits (geometry k (on_usable img k v)) (value_of k img) holder (file_chain k img (slot_at k slot)) (start_of img (slot_at k slot)) (size_of img (slot_at k slot)) refl file_owned

  pub file_at : (a : ℕ) → a ≡ slot_at k slot → FileAt k img a
  file_at a e = rw e (record { behind = omega arith; within = file_within (slot_at k slot) refl; chain = file_chain_lem; holds = file_holds })

-- no chain has more clusters than there are
pub chain_few : (img : List ℕ) (k : Kind) → OnVolume img k → (a : ℕ) → FileAt k img a → length (file_chain k img a) ≤ clusters k
chain_few img k v a f = omega (arith, chain_length (geometry k (on_usable img k v)) (value_of k img) (start_of img a) (file_chain k img a) f.chain)
