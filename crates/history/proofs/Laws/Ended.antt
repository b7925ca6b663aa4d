-- Delete: the slot is erased and has no clusters; no file is there then.
use Rattle.std.specs.Prelude.{ℕ, List, [], ◌∷◌, ◌≡◌, refl}
use Rattle.std.proofs.Common.{arith, sym, ◌∙◌, subst}
use Rattle.image.specs.Bytes.{Bytes}
use Rattle.image.proofs.Laws.Store.{bytes_one}
use Rattle.chains.specs.Aids.Holders.{Holder, Owns}
use Rattle.chains.proofs.Laws.Holders.{nobody_owns}
use Rattle.diskette.specs.Places.{cluster_bytes, last_cluster, slot_at}
use Rattle.diskette.specs.declared.Kind.{Kind}
use Rattle.directory.specs.Slots.{ErasedAt, LiveAt}
use Rattle.directory.proofs.Laws.Entries.{byte_back}
use Rattle.sound.specs.Files.{value_of, IsFile}
use Rattle.sound.proofs.Laws.Geometry.{geometry}
use Rattle.sound.proofs.Laws.Holders.{no_holder}
use Rattle.calls.specs.Aids.Ready.{OnVolume}
use Rattle.calls.proofs.Laws.Ready.{on_usable}
use Rattle.holding.proofs.Laws.Chain.{file_within}
use Rattle.freeing.specs.Freed.{chain_freed}
use Rattle.deleting.specs.Delete.{erased_in}
use Rattle.changes.specs.Aids.Changed.{SlotChanged}
use Rattle.changes.proofs.Laws.Emptied.{Emptied, file_emptied, entry_emptied, emptied_changed}
use Rattle.changes.proofs.Laws.Slots.{used_lower}

module _ (k : Kind) (l : List ℕ) (v : OnVolume l k) (b : Bytes l) (s : ℕ) (i : IsFile k l s) where
  emptied : Emptied k l (erased_in k l s) s
  emptied =
      entry_emptied k l v b s (chain_freed k l (slot_at k s)) (slot_at k s) (0xE5 ∷ []) (omega arith) (omega arith) i.below
      (bytes_one 0xE5 (omega arith)) (file_emptied k l v b s i)

  erased : ErasedAt (erased_in k l s) (slot_at k s)
  erased =
      byte_back (chain_freed k l (slot_at k s)) (slot_at k s) 0xE5 (omega (arith, (file_emptied k l v b s i).frame.long, file_within l k v s i (slot_at k s) refl))

  -- no live entry is there
  ended : ¬ LiveAt (erased_in k l s) (slot_at k s)
  ended x = x.1 erased

  pub delete_changed : SlotChanged k l (erased_in k l s) s []
  delete_changed =
      let nobody = no_holder (cluster_bytes k) (erased_in k l s) (slot_at k s) (λ p. ended p.0) in
      emptied_changed k l v b s (erased_in k l s) i.below emptied
      (subst (λ (h : Holder). Owns (last_cluster k) (value_of k (erased_in k l s)) h []) (sym nobody)
      (nobody_owns (geometry k (on_usable l k v)) (value_of k (erased_in k l s))))
      (record {
        used = λ z. let e : 0xE5 ≡ 0 = sym erased ∙ z in omega arith;
        below = used_lower k l v s i;
        usual = λ x. ended x.0;
        no_label = λ x. ended x.0;
        own_name = λ p t h n q. absurd (ended p.0);
      })

  pub delete_ends : ¬ IsFile k (erased_in k l s) s
  delete_ends x = ended x.plain.0

  pub delete_bytes : Bytes (erased_in k l s)
  delete_bytes = emptied.bytes
