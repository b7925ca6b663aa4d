-- The chain of a slot in the theory's family: that of the file there, none where no file is.
use Rattle.std.specs.Prelude.{ℕ, ◌<◌, List, [], ◌≡◌}
use Rattle.std.proofs.Common.{sym, ◌∙◌, subst}
use Rattle.chains.specs.Aids.Holders.{Holder, Owns, file_holder}
use Rattle.chains.proofs.Laws.Holders.{owns_same, owns_nobody}
use Rattle.diskette.specs.Places.{cluster_bytes, last_cluster, root_entries, slot_at}
use Rattle.diskette.specs.declared.Kind.{Kind}
use Rattle.fields.specs.Fields.{start_of, size_of}
use Rattle.directory.specs.Slots.{PlainAt}
use Rattle.sound.specs.Files.{value_of, IsFile}
use Rattle.sound.specs.Aids.Holders.{root_holders, root_chains}
use Rattle.sound.proofs.Laws.Geometry.{geometry}
use Rattle.sound.proofs.Laws.Holders.{root_holder, plain_holder, no_holder}
use Rattle.calls.specs.Aids.Ready.{OnVolume}
use Rattle.calls.proofs.Laws.Ready.{on_usable}
use Rattle.holding.specs.Holding.{file_chain}
use Rattle.holding.proofs.Laws.Chain.{file_owned}
use Rattle.changes.proofs.Laws.Changed.{on_theory}

module _ (k : Kind) (l : List ℕ) (v : OnVolume l k) (s : ℕ) where
  module _ (i : IsFile k l s) where
    pub root_file_holder : root_holders k l (slot_at k s) ≡ file_holder (cluster_bytes k) (start_of l (slot_at k s)) (size_of l (slot_at k s))
    root_file_holder = root_holder k l s i.below ∙ plain_holder (cluster_bytes k) l (slot_at k s) i.plain

    pub root_file : root_chains k l (slot_at k s) ≡ file_chain k l (slot_at k s)
    root_file =
        owns_same (geometry k (on_usable l k v)) (value_of k l) (root_holders k l (slot_at k s)) (root_chains k l (slot_at k s)) (file_chain k l (slot_at k s)) ((on_theory k l v).owns (slot_at k s))
        (subst (λ (h : Holder). Owns (last_cluster k) (value_of k l) h (file_chain k l (slot_at k s))) (sym root_file_holder) (file_owned l k v s i))

  pub root_none : s < root_entries k → ¬ PlainAt l (slot_at k s) → root_chains k l (slot_at k s) ≡ []
  root_none h n =
      owns_nobody (geometry k (on_usable l k v)) (value_of k l) (root_holders k l (slot_at k s)) (root_chains k l (slot_at k s))
      (root_holder k l s h ∙ no_holder (cluster_bytes k) l (slot_at k s) n) ((on_theory k l v).owns (slot_at k s))
