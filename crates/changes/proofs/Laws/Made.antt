-- Create: the slot holds an empty file of the name and attribute given, whether a file of that name was emptied or an open slot
-- was taken.
use Rattle.std.specs.Prelude.{ℕ, ◌+◌, ◌/◌, ◌%◌, ◌<◌, true, false, List, [], ◌≢◌, ◌⊎◌, ◌≡◌, ltb, length, get_or, Some, None, is_some}
use Rattle.std.proofs.Common.{arith, inl, inr, sym, ap, ◌∙◌, subst, lt-ltb}
use Rattle.std.proofs.Math.Path.{refl}
use Rattle.image.specs.Bytes.{Bytes}
use Rattle.image.specs.Numbers.{digits}
use Rattle.image.proofs.Laws.Store.{part_at}
use Rattle.chains.specs.Content.{content}
use Rattle.chains.specs.Aids.Holders.{Holder, Owns, file_holder}
use Rattle.chains.proofs.Laws.Sizes.{fits_empty}
use Rattle.chains.proofs.Laws.Tests.{clash}
use Rattle.diskette.specs.Places.{cluster_bytes, last_cluster, root_entries, slot_at}
use Rattle.diskette.specs.declared.Kind.{Kind}
use Rattle.search.specs.Search.{Lowest, Nowhere, Answers}
use Rattle.directory.specs.Entries.{HasFields}
use Rattle.fields.specs.Fields.{name_of, attr_of, start_of, size_of, tail_bytes, with_entry}
use Rattle.fields.specs.Aids.Fields.{entry_bytes}
use Rattle.directory.specs.Search.{lowest_vacant, slot_named}
use Rattle.directory.specs.Slots.{has_bit, NeverUsedAt, VacantAt, PlainAt}
use Rattle.directory.proofs.Laws.Entries.{fresh}
use Rattle.fields.proofs.Laws.Fields.{length_entry, bytes_entry}
use Rattle.directory.proofs.Laws.Search.{vacant_slot_answers, slot_named_answers}
use Rattle.names.specs.Reading.{name_given, name_bytes}
use Rattle.names.specs.Spelling.{Proper}
use Rattle.names.proofs.Laws.Given.{given_bytes}
use Rattle.names.proofs.Laws.Proper.{proper}
use Rattle.sound.specs.Files.{value_of, none_of_it, IsFile}
use Rattle.sound.proofs.Laws.Geometry.{geometry}
use Rattle.sound.proofs.Laws.Holders.{plain_holder}
use Rattle.calls.specs.Refusals.{bad_attr}
use Rattle.calls.specs.Aids.Ready.{OnVolume}
use Rattle.calls.proofs.Laws.Files.{slots_within, slot_within}
use Rattle.calls.proofs.Laws.Ready.{on_usable}
use Rattle.freeing.specs.Freed.{chain_freed}
use Rattle.changes.specs.Aids.Changed.{SlotChanged}
use Rattle.changes.specs.Files.{file, Holds}
use Rattle.changes.proofs.Laws.Emptied.{Emptied, file_emptied, none_emptied, entry_emptied, emptied_changed}
use Rattle.changes.proofs.Laws.Given.{GoodAttr, good_attr}
use Rattle.changes.proofs.Laws.Slots.{used_lower, name_once}

-- ---- the entry

-- of a number a word takes the low 16 bits
word_low : (w : ℕ) → digits w 2 ≡ digits (w % 65536) 2
unfolding digits
word_low w =
    let e : w % 256 ≡ w % 65536 % 256 = omega arith in
    let q : w / 256 / 256 ≡ w / 65536 = omega arith in
    let r : w % 65536 / 256 ≡ w / 256 % 256 = omega arith in
    let f : w / 256 % 256 ≡ w % 65536 / 256 % 256 = omega arith in
    rw (e, f)

module _ (k : Kind) (l : List ℕ) (v : OnVolume l k) (b : Bytes l) (given : List ℕ) (fits : is_some (name_given given) ≡ true) (attr : ℕ) (allowed : bad_attr attr ≡ false) (time date : ℕ) (s : ℕ) where
  abbrev name : List ℕ
  name = name_bytes (name_given given)

  abbrev a : ℕ
  a = slot_at k s

  good_name : Proper name
  good_name = proper given _ (given_bytes (name_given given) fits)

  good : GoodAttr attr
  good = good_attr attr allowed

  -- ---- a fresh entry in a slot without clusters

  module _ (within : s < root_entries k) (n : List ℕ) (x : Emptied k l n s) where
    abbrev m : List ℕ
    m = with_entry n a name attr time date 0 0

    long : length (entry_bytes name attr time date 0 0) ≡ 32
    long = length_entry name attr time date 0 0 good_name.long

    emptied : Emptied k l m s
    emptied = entry_emptied k l v b s n a (entry_bytes name attr time date 0 0) (omega arith) (omega (arith, long)) within
        (bytes_entry name attr time date 0 0 good_name.bytes good.byte) x

    same_entry : with_entry n a name attr (time % 65536) (date % 65536) 0 0 ≡ m
    unfolding tail_bytes
    same_entry = rw (word_low time, word_low date)

    fields : HasFields m a name attr (time % 65536) (date % 65536) 0 0
    fields = subst (λ (y : List ℕ). HasFields y a name attr (time % 65536) (date % 65536) 0 0) same_entry
        (fresh name attr (time % 65536) (date % 65536) 0 0 good_name.long n a (omega (arith, x.frame.long, slot_within l k v s a within refl)) (omega arith) (omega arith) (omega arith) (omega arith))

    first : get_or m a 0 ≡ get_or name 0 0
    first = let z : a + 0 ≡ a = omega arith in (rw z at (sym (part_at m a 11 0 (omega arith)))) ∙ ap (λ (y : List ℕ). get_or y 0 0) fields.name

    plain : PlainAt m a
    plain = ((λ z. good_name.never_used (sym first ∙ z), λ z. good_name.erased (sym first ∙ z)), rw fields.attr good.no_label)

    owns : Owns (last_cluster k) (value_of k m) (file_holder (cluster_bytes k) (start_of m a) (size_of m a)) []
    owns = rw (fields.start, fields.size) (record { chain = refl; long = fits_empty (cluster_bytes k) (geometry k (on_usable l k v)).wide })

    made_changed : ((t : ℕ) → t < s → ¬ NeverUsedAt l (slot_at k t)) → ((t : ℕ) → t < root_entries k → t ≢ s → PlainAt l (slot_at k t) → name_of l (slot_at k t) ≢ name) → SlotChanged k l m s []
    made_changed lower alone =
        emptied_changed k l v b s m within emptied
        (subst (λ (h : Holder). Owns (last_cluster k) (value_of k m) h []) (sym (plain_holder (cluster_bytes k) m a plain)) owns)
        (record {
          used = plain.0.0;
          below = lower;
          usual = λ y. strange y.1;
          no_label = λ y. clash y.1 plain.1;
          own_name = λ p t h d q e. alone t h d q (e ∙ fields.name);
        })
      where
        strange : (get_or m a 0 ≡ 0x2E) ⊎ ((has_bit (attr_of m a) 0x10 ≡ true) ⊎ ((has_bit (attr_of m a) 0x40 ≡ true) ⊎ (has_bit (attr_of m a) 0x80 ≡ true))) → ⊥
        strange (inl e) = good_name.dotted (sym first ∙ e)
        strange (inr (inl e)) = clash (rw fields.attr at e) good.no_10
        strange (inr (inr (inl e))) = clash (rw fields.attr at e) good.no_40
        strange (inr (inr (inr e))) = clash (rw fields.attr at e) good.no_80

    made_holds : Holds k m s (file name attr [])
    unfolding content
    made_holds = record {
      is_file = record { below = within; plain = plain };
      name = fields.name;
      attr = fields.attr;
      bytes = ([], none_of_it fields.size fields.start refl, rw fields.size refl);
    }

  -- ---- a file of that name is emptied

  module _ (found : slot_named l (slot_at k) (root_entries k) name ≡ Some s) where
    named : Lowest ltb (λ t. (t < root_entries k) × (PlainAt l (slot_at k t) × (name_of l (slot_at k t) ≡ name))) s
    named = subst (Answers (λ t. (t < root_entries k) × (PlainAt l (slot_at k t) × (name_of l (slot_at k t) ≡ name)))) found
        (slot_named_answers l (slot_at k) (root_entries k) (slots_within l k v) name good_name.long)

    old : IsFile k l s
    old = record { below = named.0.0; plain = named.0.1.0 }

    freed : Emptied k l (chain_freed k l (slot_at k s)) s
    freed = file_emptied k l v b s old

    pub empty_changed : SlotChanged k l (with_entry (chain_freed k l (slot_at k s)) (slot_at k s) name attr time date 0 0) s []
    empty_changed = made_changed old.below (chain_freed k l (slot_at k s)) freed (used_lower k l v s old) (λ t h n p e. name_once k l v s old t h n p (e ∙ sym named.0.1.1))

    pub empty_holds : Holds k (with_entry (chain_freed k l (slot_at k s)) (slot_at k s) name attr time date 0 0) s (file name attr [])
    empty_holds = made_holds old.below (chain_freed k l (slot_at k s)) freed

    pub empty_bytes : Bytes (with_entry (chain_freed k l (slot_at k s)) (slot_at k s) name attr time date 0 0)
    empty_bytes = (emptied old.below (chain_freed k l (slot_at k s)) freed).bytes

  -- ---- a new file takes the lowest open slot

  module _ (none : slot_named l (slot_at k) (root_entries k) name ≡ None) (lowest : lowest_vacant l (slot_at k) (root_entries k) ≡ Some s) where
    nowhere : Nowhere (λ t. (t < root_entries k) × (PlainAt l (slot_at k t) × (name_of l (slot_at k t) ≡ name)))
    nowhere = subst (Answers (λ t. (t < root_entries k) × (PlainAt l (slot_at k t) × (name_of l (slot_at k t) ≡ name)))) none
        (slot_named_answers l (slot_at k) (root_entries k) (slots_within l k v) name good_name.long)

    vacant : Lowest ltb (λ t. (t < root_entries k) × VacantAt l (slot_at k t)) s
    vacant = subst (Answers (λ t. (t < root_entries k) × VacantAt l (slot_at k t))) lowest (vacant_slot_answers l (slot_at k) (root_entries k))

    unowned : Emptied k l l s
    unowned = none_emptied k l v b s vacant.0.0 (λ p. elim vacant.0.1 [ inl e ↦ p.0.1 e | inr e ↦ p.0.0 e ])

    pub new_changed : SlotChanged k l (with_entry l (slot_at k s) name attr time date 0 0) s []
    new_changed = made_changed vacant.0.0 l unowned (λ t h z. vacant.1 t (lt-ltb t s h) (omega (arith, vacant.0.0), inr z))
        (λ t h n p e. nowhere t (h, (p, e)))

    pub new_holds : Holds k (with_entry l (slot_at k s) name attr time date 0 0) s (file name attr [])
    new_holds = made_holds vacant.0.0 l unowned

    pub new_bytes : Bytes (with_entry l (slot_at k s) name attr time date 0 0)
    new_bytes = (emptied vacant.0.0 l unowned).bytes
