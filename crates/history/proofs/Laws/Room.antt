-- How many clusters are free after a change: what the file has more is taken from them. Bad and reserved ones stay as many.
use Rattle.std.specs.Prelude.{ℕ, ◌+◌, Bool, List, ◌≡◌, length}
use Rattle.std.proofs.Common.{sym, ap, subst}
use Rattle.chains.specs.Aids.Holders.{Holder, Owns}
use Rattle.chains.specs.Values.{badb, reservedb}
use Rattle.chains.specs.Aids.Values.{OutOfUse}
use Rattle.chains.proofs.Laws.Holders.{owns_same}
use Rattle.chains.proofs.Laws.ReplaceCounts.{replace_free, replace_out_of_use}
use Rattle.chains.proofs.Laws.Values.{bad_out_of_use, reserved_out_of_use}
use Rattle.diskette.specs.Places.{cluster_bytes, last_cluster, slot_at}
use Rattle.diskette.specs.declared.Kind.{Kind}
use Rattle.chaincheck.specs.Aids.Entries.{holder_at}
use Rattle.sound.specs.Counts.{clusters_with, free_of, bad_of, reserved_of}
use Rattle.sound.specs.Files.{value_of}
use Rattle.sound.specs.Aids.Holders.{root_holders, root_chains}
use Rattle.sound.proofs.Laws.Geometry.{geometry}
use Rattle.sound.proofs.Laws.Holders.{root_holder}
use Rattle.calls.specs.Aids.Ready.{OnVolume}
use Rattle.calls.proofs.Laws.Ready.{on_usable}
use Rattle.changes.specs.Aids.Changed.{SlotChanged}
use Rattle.changes.proofs.Laws.Changed.{on_theory, changed_on}
use Rattle.history.specs.Aids.Ours.{step}
use Rattle.history.specs.Aids.Came.{Came, idle, stays, changes}
use Rattle.history.specs.Promises.{Begins}
use Rattle.history.specs.World.{World, Call}
use Rattle.history.proofs.Laws.Begins.{on}

-- slot s is changed, its clusters being ds then
module _ (k : Kind) (l : List ℕ) (v : OnVolume l k) (s : ℕ) (m : List ℕ) (ds : List ℕ) (c : SlotChanged k l m s ds) where
  pub changed_chain : root_chains k m (slot_at k s) ≡ ds
  changed_chain =
      let on : OnVolume m k = changed_on k l v m s ds c in
      owns_same (geometry k (on_usable l k v)) (value_of k m) (root_holders k m (slot_at k s)) (root_chains k m (slot_at k s)) ds
      ((on_theory k m on).owns (slot_at k s))
      (subst (λ (h : Holder). Owns (last_cluster k) (value_of k m) h ds) (sym (root_holder k m s c.slot)) c.chain.owns)

  -- what it has more is taken from the free ones
  pub changed_free : free_of k m + length ds ≡ free_of k l + length (root_chains k l (slot_at k s))
  changed_free =
      replace_free (geometry k (on_usable l k v)) (value_of k l) (value_of k m) (root_holders k l) (root_chains k l) (on_theory k l v)
      (slot_at k s) (holder_at (cluster_bytes k) m (slot_at k s)) ds c.chain

module _ (k : Kind) (w : World) (c : Call) (b : Begins k w) (x : Came k w c) where
  -- clusters out of use stay as many
  pub out_of_use_after : (t : ℕ → Bool) → OutOfUse (last_cluster k) t → clusters_with t k (step w c).image ≡ clusters_with t k w.image
  out_of_use_after t o = by x
    where
      by : Came k w c → clusters_with t k (step w c).image ≡ clusters_with t k w.image
      by (idle q e) = ap (clusters_with t k) e
      by (stays s d e q) = ap (clusters_with t k) e
      by (changes s ds d y) =
          replace_out_of_use (geometry k (on_usable w.image k (on b))) (value_of k w.image) (value_of k (step w c).image)
          (root_holders k w.image) (root_chains k w.image) (on_theory k w.image (on b)) (slot_at k s)
          (holder_at (cluster_bytes k) (step w c).image (slot_at k s)) ds y.changed.chain t o

  pub bad_after : bad_of k (step w c).image ≡ bad_of k w.image
  bad_after = out_of_use_after badb (bad_out_of_use (geometry k (on_usable w.image k (on b))))

  pub reserved_after : reserved_of k (step w c).image ≡ reserved_of k w.image
  reserved_after = out_of_use_after reservedb (reserved_out_of_use (geometry k (on_usable w.image k (on b))))
