-- One slot changed: the volume is sound still, and every other file is as it was.
use Rattle.std.specs.Prelude.{ℕ, ◌+◌, ◌*◌, ◌≤◌, ◌<◌, List, ◌≢◌, ◌≡◌, length, get_or, Some}
use Rattle.std.proofs.Common.{arith, inl, inr, sym, ap, ◌∙◌, subst}
use Rattle.std.proofs.Math.Decide.{ℕ_discrete}
use Rattle.chains.specs.Content.{cluster_begin, content}
use Rattle.chains.specs.Aids.Holders.{FitTogether, Owns}
use Rattle.chains.specs.Aids.Put.{put}
use Rattle.chains.specs.Values.{Link}
use Rattle.search.specs.Search.{Nowhere}
use Rattle.chains.proofs.Laws.Content.{cluster_high}
use Rattle.chains.proofs.Laws.Holders.{file_fits}
use Rattle.chains.proofs.Laws.Put.{put_other}
use Rattle.chains.proofs.Laws.Tests.{says_true, true_says}
use Rattle.chains.proofs.Laws.Touched.{others_keep}
use Rattle.diskette.specs.Images.{kind_of_image}
use Rattle.diskette.specs.Aids.Usable.{Usable}
use Rattle.diskette.proofs.Laws.Images.{image_of_kind}
use Rattle.diskette.specs.Places.{first_data, cluster_bytes, last_cluster, root_entries, slot_at}
use Rattle.diskette.specs.declared.Kind.{Kind}
use Rattle.directory.specs.Aids.Entries.{SameFields}
use Rattle.fields.specs.Fields.{name_of, start_of, size_of}
use Rattle.directory.specs.Slots.{NeverUsedAt, LiveAt, LabelAt, PlainAt}
use Rattle.directory.proofs.Laws.Entries.{same_fields}
use Rattle.sound.specs.Files.{value_of, IsFile, ChainOf}
use Rattle.sound.specs.Findings.{TablesDiffer, StrangeEntry, BadSlot}
use Rattle.sound.specs.Aids.Holders.{root_holders, root_chains}
use Rattle.sound.specs.Sound.{Sound}
use Rattle.sound.proofs.Laws.Chains.{file_owns_chain}
use Rattle.sound.proofs.Laws.Change.{slot_replaced}
use Rattle.sound.proofs.Laws.Copies.{no_difference, no_difference_from}
use Rattle.sound.proofs.Laws.Geometry.{geometry}
use Rattle.sound.proofs.Laws.Holders.{root_holder, plain_holder, holder_as}
use Rattle.sound.proofs.Laws.IsSound.{known_says}
use Rattle.sound.proofs.Laws.Sound.{sound_theory, chain_only}
use Rattle.sound.proofs.Laws.Theory.{theory_sound}
use Rattle.calls.specs.Aids.Ready.{OnVolume}
use Rattle.calls.proofs.Laws.Ready.{on_usable, on_of_kind, on_area}
use Rattle.holding.proofs.Laws.Clusters.{on_clusters}
use Rattle.changes.specs.Files.{File, Holds}
use Rattle.changes.specs.Aids.Changed.{SlotChanged}

module _ (k : Kind) (l : List ℕ) (v : OnVolume l k) where
  u : Usable k
  u = on_usable l k v

  pub on_sound : Sound k l
  on_sound = says_true (known_says l k v.known) v.sound

  pub on_theory : FitTogether (last_cluster k) (value_of k l) (root_holders k l) (root_chains k l)
  on_theory = sound_theory k u l on_sound.0 on_sound.1

  slot_in : (t : ℕ) → t < root_entries k → slot_at k t + 32 ≤ length l
  slot_in t h = let b : 512 * first_data k ≤ length l = on_area l k v in omega arith

  module _ (m : List ℕ) (s : ℕ) (ds : List ℕ) (c : SlotChanged k l m s ds) where
    -- ---- the other slots

    same_slot : (t : ℕ) → t < root_entries k → t ≢ s → SameFields m (slot_at k t) l (slot_at k t)
    same_slot t h n = same_fields m l (slot_at k t) (slot_at k t) (rw c.frame.long (slot_in t h)) (slot_in t h) (c.frame.others t h n)

    first_same : (t : ℕ) → t < root_entries k → t ≢ s → get_or m (slot_at k t) 0 ≡ get_or l (slot_at k t) 0
    first_same t h n = let z : slot_at k t + 0 ≡ slot_at k t = omega arith in rw z at (c.frame.others t h n 0 (omega arith))

    live_as : (t : ℕ) → t < root_entries k → t ≢ s → LiveAt m (slot_at k t) → LiveAt l (slot_at k t)
    live_as t h n x = (λ e. x.0 (first_same t h n ∙ e), λ e. x.1 (first_same t h n ∙ e))

    label_as : (t : ℕ) → t < root_entries k → t ≢ s → LabelAt m (slot_at k t) → LabelAt l (slot_at k t)
    label_as t h n x = (live_as t h n x.0, rw (sym (same_slot t h n).attr) x.1)

    plain_as : (t : ℕ) → t < root_entries k → t ≢ s → PlainAt m (slot_at k t) → PlainAt l (slot_at k t)
    plain_as t h n x = (live_as t h n x.0, rw (sym (same_slot t h n).attr) x.1)

    plain_to : (t : ℕ) → t < root_entries k → t ≢ s → PlainAt l (slot_at k t) → PlainAt m (slot_at k t)
    plain_to t h n x = ((λ e. x.0.0 (sym (first_same t h n) ∙ e), λ e. x.0.1 (sym (first_same t h n) ∙ e)), rw (same_slot t h n).attr x.1)

    -- ---- sound still

    tables_still : Nowhere (TablesDiffer k m)
    tables_still =
        let d = no_difference k l u on_sound.1.tables in
        no_difference_from k m (c.frame.agree d.0) (c.frame.head 513 (omega arith) ∙ d.1) (c.frame.head 514 (omega arith) ∙ d.2)

    slots_still : Nowhere (BadSlot k m)
    slots_still t (h, inl (n, (r, below, z))) = elim (ℕ_discrete r s) [
      | yes e ↦ c.good.used (subst (λ (x : ℕ). NeverUsedAt m (slot_at k x)) e z)
      | no d ↦
          let q : NeverUsedAt l (slot_at k r) = sym (first_same r (omega arith) d) ∙ z in
          elim (ℕ_discrete t s) [
            | yes e ↦ c.good.below r (omega arith) q
            | no f ↦ on_sound.1.slots t (h, inl (λ y. n (first_same t h f ∙ y), (r, below, q)))
          ]
    ]
    slots_still t (h, inr (inl x)) = elim (ℕ_discrete t s) [
      | yes e ↦ c.good.usual (subst (StrangeEntry k m) e x)
      | no d ↦ on_sound.1.slots t (h, inr (inl (live_as t h d x.0, rw (sym (first_same t h d), sym (same_slot t h d).attr) x.1)))
    ]
    slots_still t (h, inr (inr (inl (x, (r, below, y))))) = elim (ℕ_discrete t s) [
      | yes e ↦ c.good.no_label (subst (λ (z : ℕ). LabelAt m (slot_at k z)) e x)
      | no d ↦ elim (ℕ_discrete r s) [
        | yes e ↦ c.good.no_label (subst (λ (z : ℕ). LabelAt m (slot_at k z)) e y)
        | no f ↦ on_sound.1.slots t (h, inr (inr (inl (label_as t h d x, (r, below, label_as r (omega arith) f y)))))
      ]
    ]
    slots_still t (h, inr (inr (inr (x, (r, below, y, e))))) = elim (ℕ_discrete t s) [
      | yes q ↦
          let f : r ≢ s = λ z. omega arith in
          c.good.own_name (subst (λ (z : ℕ). PlainAt m (slot_at k z)) q x) r (omega arith) f (plain_as r (omega arith) f y)
          (sym (same_slot r (omega arith) f).name ∙ e ∙ ap (λ (z : ℕ). name_of m (slot_at k z)) q)
      | no d ↦ elim (ℕ_discrete r s) [
        | yes q ↦
            c.good.own_name (subst (λ (z : ℕ). PlainAt m (slot_at k z)) q y) t h d (plain_as t h d x)
            (sym (same_slot t h d).name ∙ sym e ∙ ap (λ (z : ℕ). name_of m (slot_at k z)) q)
        | no f ↦
            on_sound.1.slots t (
              h,
              inr (inr (inr (
                plain_as t h d x,
                (r, below, plain_as r (omega arith) f y, sym (same_slot r (omega arith) f).name ∙ e ∙ (same_slot t h d).name),
              ))),
            )
      ]
    ]

    pub changed_theory : FitTogether (last_cluster k) (value_of k m) (root_holders k m) (put (root_chains k l) (slot_at k s) ds)
    changed_theory = slot_replaced k u l m (root_chains k l) on_theory s c.slot ds c.chain (λ t h n. holder_as (cluster_bytes k) m l (slot_at k t) (slot_at k t) (same_slot t h n))

    kind_still : kind_of_image m ≡ Some k
    kind_still = (image_of_kind m k).1 (record { listed = (on_of_kind l k v).listed; long = c.frame.long ∙ (on_of_kind l k v).long; byte = c.frame.head 512 (omega arith) ∙ (on_of_kind l k v).byte })

    -- the volume is sound still
    pub changed_on : OnVolume m k
    changed_on = record {
      known = kind_still;
      sound = true_says (known_says m k kind_still) (_, theory_sound k u m (put (root_chains k l) (slot_at k s) ds) changed_theory tables_still slots_still);
    }

    -- ---- every other file is as it was

    pub other_none : (t : ℕ) → t ≢ s → ¬ IsFile k l t → ¬ IsFile k m t
    other_none t n free x = free (record { below = x.below; plain = plain_as t x.below n x.plain })

    module _ (t : ℕ) (n : t ≢ s) (i : IsFile k l t) where
      apart_slots : slot_at k t ≢ slot_at k s
      apart_slots e = n (omega arith)

      other_file : IsFile k m t
      other_file = record { below = i.below; plain = plain_to t i.below n i.plain }

      -- the chain of any file of the volume before
      abbrev cs : List ℕ
      cs = root_chains k l (slot_at k t)

      own_before : ChainOf k l t cs
      own_before = (file_owns_chain k u l (root_holders k l) (root_holder k l) t cs i).0 (on_theory.owns (slot_at k t))

      own_after : ChainOf k m t cs
      own_after =
          (file_owns_chain k u m (root_holders k m) (root_holder k m) t cs other_file).0
          (subst (Owns (last_cluster k) (value_of k m) (root_holders k m (slot_at k t))) (put_other (root_chains k l) (slot_at k s) ds (slot_at k t) apart_slots) (changed_theory.owns (slot_at k t)))

      whole : (d : ℕ) → Link (last_cluster k) d → cluster_begin (512 * first_data k) (cluster_bytes k) d + cluster_bytes k ≤ length l
      whole d h = omega (arith, (on_clusters l k v).clusters, cluster_high (512 * first_data k) (cluster_bytes k) (on_clusters l k v).wide (geometry k u) d h)

      room : size_of l (slot_at k t) ≤ length cs * cluster_bytes k
      room = file_fits (geometry k u) (value_of k l) (root_holders k l (slot_at k t)) cs (start_of l (slot_at k t)) (size_of l (slot_at k t))
          (root_holder k l t i.below ∙ plain_holder (cluster_bytes k) l (slot_at k t) i.plain) (on_theory.owns (slot_at k t))

      same_content : content (512 * first_data k) (cluster_bytes k) m cs (size_of m (slot_at k t)) ≡ content (512 * first_data k) (cluster_bytes k) l cs (size_of l (slot_at k t))
      same_content =
          ap (content (512 * first_data k) (cluster_bytes k) m cs) (same_slot t i.below n).size
          ∙ others_keep (geometry k u) (512 * first_data k) (value_of k l) (value_of k m) (root_holders k l) (root_chains k l) on_theory (slot_at k s) _ ds c.chain l m whole c.clusters
          (slot_at k t) (size_of l (slot_at k t)) apart_slots room

      pub other_holds : (f : File) → Holds k l t f → Holds k m t f
      other_holds f x = record {
        is_file = other_file;
        name = (same_slot t i.below n).name ∙ x.name;
        attr = (same_slot t i.below n).attr ∙ x.attr;
        bytes = (
          cs,
          own_after,
          same_content
              ∙ ap (λ (ys : List ℕ). content (512 * first_data k) (cluster_bytes k) l ys (size_of l (slot_at k t))) (chain_only k u l t cs x.bytes.0 own_before x.bytes.1)
              ∙ x.bytes.2,
        );
      }
