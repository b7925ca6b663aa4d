-- The clusters of a slot given back: what delete and create begin with.
use Rattle.std.specs.Prelude.{ℕ, ◌+◌, ◌*◌, ◌≤◌, ◌<◌, List, [], ◌≡◌, length}
use Rattle.std.proofs.Math.Path.{refl, ap}
use Rattle.std.proofs.Common.{sym, ◌∙◌}
use Rattle.image.specs.Bytes.{Bytes}
use Rattle.image.specs.Store.{stored}
use Rattle.image.proofs.Laws.Store.{bytes_stored}
use Rattle.chains.specs.Aids.Content.{Touches}
use Rattle.chains.specs.Aids.Growth.{released}
use Rattle.chains.specs.Aids.Holders.{Owns}
use Rattle.chains.specs.Lists.{◌∈◌}
use Rattle.chains.specs.Values.{Link}
use Rattle.chains.proofs.Laws.Chain.{chain_mem}
use Rattle.chains.proofs.Laws.Changes.{gives_back}
use Rattle.diskette.specs.Aids.Usable.{Usable}
use Rattle.diskette.specs.Places.{first_data, cluster_bytes, copy_two, last_cluster, root_entries, slot_at}
use Rattle.diskette.specs.declared.Kind.{Kind}
use Rattle.fields.specs.Fields.{start_of}
use Rattle.directory.specs.Slots.{PlainAt}
use Rattle.links.specs.Aids.Leaves.{SameButEntries, HasTable}
use Rattle.links.proofs.Laws.Freed.{table_freed}
use Rattle.links.proofs.Laws.Leaves.{leaves_freed}
use Rattle.chaincheck.specs.Aids.Entries.{holder_at}
use Rattle.sound.specs.Files.{value_of, IsFile}
use Rattle.sound.specs.Aids.Holders.{root_holders, root_chains}
use Rattle.sound.proofs.Laws.Geometry.{geometry}
use Rattle.calls.specs.Aids.Ready.{OnVolume}
use Rattle.calls.proofs.Laws.Ready.{on_usable}
use Rattle.holding.specs.Holding.{file_chain}
use Rattle.holding.proofs.Laws.Chain.{file_chain_lem}
use Rattle.holding.proofs.Laws.Clusters.{copies_reach}
use Rattle.freeing.specs.Freed.{chain_freed}
use Rattle.changes.specs.Aids.Changed.{Framed, GoodSlot, SlotChanged}
use Rattle.changes.proofs.Laws.Changed.{on_theory}
use Rattle.changes.proofs.Laws.Frames.{frame_same, frame_then, entry_frame, entry_table, entry_touches, links_frame, links_touch}
use Rattle.changes.proofs.Laws.Root.{root_file, root_none}

-- n is l without the clusters of slot s; its entry may be any
pub record Emptied (k : Kind) (l n : List ℕ) (s : ℕ) : Type 0 where
  pub frame : Framed k l n s
  pub bytes : Bytes n
  pub clusters : Touches (last_cluster k) (512 * first_data k) (cluster_bytes k) l n []
  pub table : value_of k n ≡ released (value_of k l) (root_chains k l (slot_at k s))

module _ (k : Kind) (l : List ℕ) (v : OnVolume l k) (b : Bytes l) (s : ℕ) where
  u : Usable k
  u = on_usable l k v

  -- ---- a file's clusters freed

  module _ (i : IsFile k l s) where
    in_reach : (c : ℕ) → c ∈ file_chain k l (slot_at k s) → Link (last_cluster k) c
    in_reach c m = (chain_mem (geometry k u) (value_of k l) (start_of l (slot_at k s)) (file_chain k l (slot_at k s)) (file_chain_lem l k v s i) c m).0

    holds : HasTable (copy_two k) (last_cluster k) l
    holds = record { small = u.below_reserved; bytes = b; reaches = copies_reach l k v (copy_two k) (last_cluster k) refl refl }

    leaves : SameButEntries (copy_two k) (last_cluster k) l (chain_freed k l (slot_at k s))
    unfolding chain_freed
    leaves = leaves_freed (copy_two k) (last_cluster k) (file_chain k l (slot_at k s)) l holds.reaches in_reach

    pub file_emptied : Emptied k l (chain_freed k l (slot_at k s)) s
    unfolding chain_freed
    file_emptied = record {
      frame = links_frame k u s l (chain_freed k l (slot_at k s)) leaves;
      bytes = leaves.bytes b;
      clusters = links_touch k u s l (chain_freed k l (slot_at k s)) leaves [];
      table = table_freed (copy_two k) (last_cluster k) l (file_chain k l (slot_at k s)) holds in_reach ∙ ap (released (value_of k l)) (sym (root_file k l v s i));
    }

  -- ---- no file, no clusters

  pub none_emptied : s < root_entries k → ¬ PlainAt l (slot_at k s) → Emptied k l l s
  unfolding released
  none_emptied h n = record {
    frame = frame_same k u s l;
    bytes = b;
    clusters = record { size = refl; rest = λ c q i j x. refl };
    table = ap (released (value_of k l)) (sym (root_none k l v s h n));
  }

  -- ---- then a store in the slot's entry

  module _ (n : List ℕ) (p : ℕ) (bs : List ℕ) (from : slot_at k s ≤ p) (to : p + length bs ≤ slot_at k s + 32) (within : s < root_entries k) (are : Bytes bs) (x : Emptied k l n s) where
    pub entry_emptied : Emptied k l (stored n p bs) s
    entry_emptied =
        let t = entry_touches k u s n p bs from to within [] in
        record {
          frame = frame_then k u s l n (stored n p bs) x.frame (entry_frame k u s n p bs from to within);
          bytes = bytes_stored n p bs x.bytes are;
          clusters = record { size = t.size ∙ x.clusters.size; rest = λ c q i j y. t.rest c q i j y ∙ x.clusters.rest c q i j y };
          table = (λ j c. entry_table k u s n p bs from to within c j) ∙ x.table;
        }

  -- ---- so the slot changed, and has no clusters

  module _ (m : List ℕ) (within : s < root_entries k) (x : Emptied k l m s) where
    pub emptied_changed : Owns (last_cluster k) (value_of k m) (holder_at (cluster_bytes k) m (slot_at k s)) [] → GoodSlot k l m s → SlotChanged k l m s []
    emptied_changed o g = record {
      slot = within;
      frame = x.frame;
      chain = rw x.table (gives_back (geometry k u) (value_of k l) (root_holders k l) (root_chains k l) (on_theory k l v) (slot_at k s) (holder_at (cluster_bytes k) m (slot_at k s)) (rw x.table at o));
      clusters = x.clusters;
      good = g;
    }
