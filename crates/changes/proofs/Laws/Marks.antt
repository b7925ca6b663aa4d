-- Rename, file mode and close: fields of one entry change and no cluster does. The volume stays sound, the file keeps its
-- bytes.
use Rattle.std.specs.Prelude.{ℕ, ◌+◌, ◌*◌, ◌/◌, ◌%◌, ◌≤◌, ◌<◌, Bool, true, false, cond, List, [], ◌∷◌, ◌≢◌, ◌≡◌, refl, eqb, length, get_or, None, is_some}
use Rattle.std.proofs.Common.{arith, inl, inr, sym, ap, ◌∙◌, subst, eqb-true, ne_eqb}
use Rattle.std.proofs.Math.Decide.{dec_lt}
use Rattle.std.proofs.lemmas.Bool.{eqb-false, not-false}
use Rattle.image.specs.Bytes.{Bytes}
use Rattle.image.specs.Numbers.{digits}
use Rattle.image.specs.Store.{stored}
use Rattle.image.proofs.Laws.Numbers.{length_digits, bytes_digits}
use Rattle.image.proofs.Laws.Store.{bytes_one, bytes_stored, stored_inside}
use Rattle.chains.specs.Content.{content}
use Rattle.chains.specs.Aids.Content.{Room, Touches}
use Rattle.chains.specs.Aids.Holders.{Holder, Owns, file_holder}
use Rattle.chains.specs.Lists.{◌∈◌}
use Rattle.chains.specs.Aids.Replace.{Replaced}
use Rattle.chains.specs.Values.{Link}
use Rattle.chains.proofs.Laws.Chain.{chain_mem}
use Rattle.chains.proofs.Laws.Changes.{keeps}
use Rattle.sound.proofs.Laws.Clusters.{file_owns}
use Rattle.chains.proofs.Laws.Content.{cluster_high}
use Rattle.chains.proofs.Laws.Holders.{file_fits}
use Rattle.chains.proofs.Laws.Tests.{clash}
use Rattle.chains.proofs.Laws.Touched.{content_same, touched_twice}
use Rattle.diskette.specs.Aids.Usable.{Usable}
use Rattle.diskette.specs.Places.{first_data, cluster_bytes, last_cluster, root_entries, slot_at}
use Rattle.diskette.specs.declared.Kind.{Kind}
use Rattle.directory.specs.Aids.Entries.{Untouched}
use Rattle.fields.specs.Fields.{name_of, attr_of, start_of, size_of, with_name, with_attr}
use Rattle.directory.specs.Search.{slot_named}
use Rattle.directory.specs.Slots.{has_bit, NeverUsedAt, PlainAt}
use Rattle.directory.proofs.Laws.Entries.{untouched, byte_leaves, word_leaves, byte_back, run_back}
use Rattle.directory.proofs.Laws.Search.{slot_named_answers}
use Rattle.names.specs.Reading.{name_given, name_bytes}
use Rattle.names.specs.Spelling.{Proper}
use Rattle.names.proofs.Laws.Given.{given_bytes}
use Rattle.names.proofs.Laws.Proper.{proper}
use Rattle.search.specs.Search.{Answers}
use Rattle.chaincheck.specs.Aids.Entries.{holder_at}
use Rattle.sound.specs.Files.{value_of, ChainOf, IsFile}
use Rattle.sound.specs.Findings.{StrangeEntry}
use Rattle.sound.specs.Aids.Holders.{root_holders, root_chains}
use Rattle.sound.proofs.Laws.Geometry.{geometry}
use Rattle.sound.proofs.Laws.Holders.{root_holder, plain_holder}
use Rattle.calls.specs.Aids.Ready.{OnVolume}
use Rattle.calls.specs.Refusals.{bad_attr}
use Rattle.calls.proofs.Laws.Attribute.{attr_fits}
use Rattle.calls.proofs.Laws.Files.{slots_within}
use Rattle.calls.proofs.Laws.Ready.{on_usable}
use Rattle.closing.specs.Close.{archived, stamped}
use Rattle.closing.proofs.Laws.Close.{archived_fits}
use Rattle.holding.proofs.Laws.Chain.{file_within}
use Rattle.holding.proofs.Laws.Clusters.{on_clusters}
use Rattle.changes.specs.Files.{File, file, Holds}
use Rattle.changes.specs.Aids.Changed.{Framed, SlotChanged}
use Rattle.changes.proofs.Laws.Changed.{on_sound, on_theory}
use Rattle.changes.proofs.Laws.Frames.{frame_then, entry_frame, entry_table, entry_touches}

-- ---- stores within one entry

-- m is l but for bytes of the entry in slot s
pub record EntryChanged (k : Kind) (l m : List ℕ) (s : ℕ) : Type 0 where
  pub frame : Framed k l m s
  pub table : (c : ℕ) → value_of k m c ≡ value_of k l c
  pub clusters : (ds : List ℕ) → Touches (last_cluster k) (512 * first_data k) (cluster_bytes k) l m ds

module _ (k : Kind) (u : Usable k) (s : ℕ) where
  pub entry_stored : s < root_entries k → (l : List ℕ) (p : ℕ) (bs : List ℕ) → slot_at k s ≤ p → p + length bs ≤ slot_at k s + 32 → EntryChanged k l (stored l p bs) s
  entry_stored within l p bs from to = record {
    frame = entry_frame k u s l p bs from to within;
    table = entry_table k u s l p bs from to within;
    clusters = entry_touches k u s l p bs from to within;
  }

  pub entry_then : (l m n : List ℕ) → EntryChanged k l m s → EntryChanged k m n s → EntryChanged k l n s
  entry_then l m n x y = record {
    frame = frame_then k u s l m n x.frame y.frame;
    table = λ c. y.table c ∙ x.table c;
    clusters = λ ds. touched_twice (last_cluster k) (512 * first_data k) (cluster_bytes k) l m n ds (x.clusters ds) (y.clusters ds);
  }

-- ---- attributes

-- an attribute that the entry of a file may have: none of the bits 08, 10, 40 and 80
pub record FileMarks (attr : ℕ) : Type 0 where
  pub plain : has_bit attr 0x08 ≡ false
  pub not10 : has_bit attr 0x10 ≢ true
  pub not40 : has_bit attr 0x40 ≢ true
  pub not80 : has_bit attr 0x80 ≢ true

-- what a caller may set
pub allowed_marks : (attr : ℕ) → bad_attr attr ≡ false → FileMarks attr
unfolding bad_attr
allowed_marks attr e =
    let q : attr ≡ attr % 8 + attr / 32 % 2 * 32 = eqb-true attr (attr % 8 + attr / 32 % 2 * 32) (not-false (eqb attr (attr % 8 + attr / 32 % 2 * 32)) e) in
    let d8 : attr / 8 ≡ 4 * (attr / 32 % 2) = omega arith in
    let h8 : attr / 8 / 2 ≡ 2 * (attr / 32 % 2) = omega arith in
    let d16 : attr / 16 ≡ 2 * (attr / 32 % 2) = omega arith in
    let h16 : attr / 16 / 2 ≡ attr / 32 % 2 = omega arith in
    let d64 : attr / 64 ≡ 0 = omega arith in
    let d128 : attr / 128 ≡ 0 = omega arith in
    record {
      plain = ne_eqb (attr / 8 % 2) 1 (omega arith);
      not10 = λ t. let z : attr / 16 % 2 ≡ 1 = eqb-true (attr / 16 % 2) 1 t in omega arith;
      not40 = λ t. let z : attr / 64 % 2 ≡ 1 = eqb-true (attr / 64 % 2) 1 t in omega arith;
      not80 = λ t. let z : attr / 128 % 2 ≡ 1 = eqb-true (attr / 128 % 2) 1 t in omega arith;
    }

-- bit 20 set leaves the others
pub archived_marks : (attr : ℕ) → FileMarks attr → FileMarks (archived attr)
unfolding archived
archived_marks attr x = by (has_bit attr 0x20) refl
  where
    by : (b : Bool) → has_bit attr 0x20 ≡ b → FileMarks (cond b attr (attr + 0x20))
    by true e = x
    by false e =
        let n : attr / 32 % 2 ≢ 1 = eqb-false (attr / 32 % 2) 1 e in
        let even : attr / 32 % 2 ≡ 0 = omega arith in
        let d8 : (attr + 0x20) / 8 ≡ attr / 8 + 4 = omega arith in
        let d16 : (attr + 0x20) / 16 ≡ attr / 16 + 2 = omega arith in
        let d64 : (attr + 0x20) / 64 ≡ attr / 64 = omega arith in
        let d128 : (attr + 0x20) / 128 ≡ attr / 128 = omega arith in
        let m8 : (attr / 8 + 4) % 2 ≡ attr / 8 % 2 = omega arith in
        let m16 : (attr / 16 + 2) % 2 ≡ attr / 16 % 2 = omega arith in
        record {
          plain = rw (d8, m8) x.plain;
          not10 = rw (d16, m16) x.not10;
          not40 = rw d64 x.not40;
          not80 = rw d128 x.not80;
        }

pub archived_byte : (attr : ℕ) → attr < 256 → archived attr < 256
unfolding archived
archived_byte attr h = by (has_bit attr 0x20) refl
  where
    by : (b : Bool) → has_bit attr 0x20 ≡ b → cond b attr (attr + 0x20) < 256
    by true e = h
    by false e = archived_fits attr false (sym e) h refl

-- ---- of a file, whose start and size stay

-- slot s of m has a file of the start and the size that it had in l
pub record FileStays (k : Kind) (l m : List ℕ) (s : ℕ) : Type 0 where
  pub plain : PlainAt m (slot_at k s)
  pub start : start_of m (slot_at k s) ≡ start_of l (slot_at k s)
  pub size : size_of m (slot_at k s) ≡ size_of l (slot_at k s)

-- slot s of m has the entry that it had in l, but for the attribute and for words that soundness does not ask after
pub record Marked (k : Kind) (l m : List ℕ) (s attr : ℕ) : Type 0 where
  pub entry : EntryChanged k l m s
  pub first : get_or m (slot_at k s) 0 ≡ get_or l (slot_at k s) 0
  pub name : name_of m (slot_at k s) ≡ name_of l (slot_at k s)
  pub is : attr_of m (slot_at k s) ≡ attr
  pub start : start_of m (slot_at k s) ≡ start_of l (slot_at k s)
  pub size : size_of m (slot_at k s) ≡ size_of l (slot_at k s)

module _ (k : Kind) (l : List ℕ) (v : OnVolume l k) (s : ℕ) (i : IsFile k l s) where
  u : Usable k
  u = on_usable l k v

  abbrev a : ℕ
  a = slot_at k s

  -- ---- what soundness says of the entry before

  pub usual_before : ¬ StrangeEntry k l s
  usual_before x = (on_sound k l v).1.slots s (i.below, inr (inl x))

  pub below_before : (t : ℕ) → t < s → ¬ NeverUsedAt l (slot_at k t)
  below_before t h z = (on_sound k l v).1.slots s (i.below, inl (i.plain.0.0, (t, h, z)))

  pub name_before : (t : ℕ) → t < root_entries k → t ≢ s → PlainAt l (slot_at k t) → name_of l (slot_at k t) ≢ name_of l (slot_at k s)
  name_before t h n p e = elim (dec_lt t s) [
    | yes q ↦ (on_sound k l v).1.slots s (i.below, inr (inr (inr (i.plain, (t, q, p, e)))))
    | no q ↦ elim (dec_lt s t) [
      | yes r ↦ (on_sound k l v).1.slots t (h, inr (inr (inr (p, (s, r, i.plain, sym e)))))
      | no r ↦ n (omega arith)
    ]
  ]

  -- ---- any change of its entry that leaves a file of that start and size

  module _ (m : List ℕ) (c : EntryChanged k l m s) (f : FileStays k l m s) where
    same_table : value_of k m ≡ value_of k l
    same_table = λ j x. c.table x j

    same_holder : holder_at (cluster_bytes k) m a ≡ root_holders k l a
    same_holder =
        plain_holder (cluster_bytes k) m a f.plain
        ∙ ap (λ (x : ℕ). file_holder (cluster_bytes k) x (size_of m a)) f.start
        ∙ ap (file_holder (cluster_bytes k) (start_of l a)) f.size
        ∙ sym (root_holder k l s i.below ∙ plain_holder (cluster_bytes k) l a i.plain)

    same_chain : Replaced (last_cluster k) (value_of k l) (value_of k m) (holder_at (cluster_bytes k) m a) (root_chains k l a) (root_chains k l a)
    same_chain =
        subst (λ (g : ℕ → ℕ). Replaced (last_cluster k) (value_of k l) g (holder_at (cluster_bytes k) m a) (root_chains k l a) (root_chains k l a)) (sym same_table)
        (keeps (geometry k u) (value_of k l) (root_holders k l) (root_chains k l) (on_theory k l v) a (holder_at (cluster_bytes k) m a)
        (subst (λ (h : Holder). Owns (last_cluster k) (value_of k l) h (root_chains k l a)) (sym same_holder) ((on_theory k l v).owns a)))

    -- where nothing in the entry is strange and no other file has its name
    pub entry_changed : ¬ StrangeEntry k m s
        → ((t : ℕ) → t < root_entries k → t ≢ s → PlainAt l (slot_at k t) → name_of l (slot_at k t) ≢ name_of m a)
        → SlotChanged k l m s (root_chains k l a)
    entry_changed usual own = record {
      slot = i.below;
      frame = c.frame;
      chain = same_chain;
      clusters = c.clusters (root_chains k l a);
      good = record {
        used = f.plain.0.0;
        below = below_before;
        usual = usual;
        no_label = λ x. clash x.1 f.plain.1;
        own_name = λ p. own;
      };
    }

    -- the file keeps its bytes
    module _ (cs : List ℕ) (x : ChainOf k l s cs) where
      owned : Owns (last_cluster k) (value_of k l) (file_holder (cluster_bytes k) (start_of l a) (size_of l a)) cs
      owned = file_owns (last_cluster k) (cluster_bytes k) (geometry k u).wide (value_of k l) (start_of l a) (size_of l a) cs x

      in_range : (d : ℕ) → d ∈ cs → Link (last_cluster k) d
      in_range d n = (chain_mem (geometry k u) (value_of k l) (start_of l a) cs owned.chain d n).0

      room : Room (512 * first_data k) (cluster_bytes k) l cs
      room d n = ((in_range d n).0, omega (arith, (on_clusters l k v).clusters, cluster_high (512 * first_data k) (cluster_bytes k) (on_clusters l k v).wide (geometry k u) d (in_range d n)))

      same_content : content (512 * first_data k) (cluster_bytes k) m cs (size_of m a) ≡ content (512 * first_data k) (cluster_bytes k) l cs (size_of l a)
      same_content =
          ap (content (512 * first_data k) (cluster_bytes k) m cs) f.size
          ∙ content_same (512 * first_data k) (cluster_bytes k) (geometry k u).wide l m cs (size_of l a) room c.frame.long
          (λ d q n j. (c.clusters []).rest d q (in_range d n) (λ e. e) j)
          (file_fits (geometry k u) (value_of k l) _ cs (start_of l a) (size_of l a) refl owned)

      chain_stays : ChainOf k m s cs
      chain_stays = rw (same_table, f.start, f.size) x

    pub entry_holds : (g : File) → Holds k l s g → (name : List ℕ) (attr : ℕ) → name_of m a ≡ name → attr_of m a ≡ attr → Holds k m s (file name attr g.bytes)
    entry_holds g h name attr e d = record {
      is_file = record { below = i.below; plain = f.plain };
      name = e;
      attr = d;
      bytes = (h.bytes.0, chain_stays h.bytes.0 h.bytes.1, same_content h.bytes.0 h.bytes.1 ∙ h.bytes.2);
    }

  within : a + 32 ≤ length l
  within = file_within l k v s i a refl

  -- ---- rename

  module _ (given : List ℕ) (fits : is_some (name_given given) ≡ true) where
    abbrev name : List ℕ
    name = name_bytes (name_given given)

    abbrev renamed : List ℕ
    renamed = with_name l a name

    good : Proper name
    good = proper given _ (given_bytes (name_given given) fits)

    rename_entry : EntryChanged k l renamed s
    rename_entry = entry_stored k u s i.below l a name (omega arith) (omega (arith, good.long))

    rename_leaves : Untouched renamed l a 11 a
    rename_leaves = untouched l a 11 name good.long a within

    rename_attr : attr_of renamed a ≡ attr_of l a
    rename_attr = rename_leaves.attr (inr (omega arith))

    rename_first : get_or renamed a 0 ≡ get_or name 0 0
    rename_first = let z : a + 0 ≡ a = omega arith in rw z at (stored_inside l a name 0 (omega (arith, good.long)) (omega (arith, good.long, within)))

    rename_name : name_of renamed a ≡ name
    rename_name = run_back l a 11 name good.long (omega (arith, within))

    rename_stays : FileStays k l renamed s
    rename_stays = record {
      plain = ((λ e. good.never_used (sym rename_first ∙ e), λ e. good.erased (sym rename_first ∙ e)), rw rename_attr i.plain.1);
      start = rename_leaves.start (inl (omega arith));
      size = rename_leaves.size (inl (omega arith));
    }

    rename_usual : ¬ StrangeEntry k renamed s
    rename_usual (live, inl e) = good.dotted (sym rename_first ∙ e)
    rename_usual (live, inr e) = usual_before (i.plain.0, inr (rw (sym rename_attr) e))

    pub rename_changed : slot_named l (slot_at k) (root_entries k) name ≡ None → SlotChanged k l renamed s (root_chains k l a)
    rename_changed free =
        let none : Answers (λ t. (t < root_entries k) × (PlainAt l (slot_at k t) × (name_of l (slot_at k t) ≡ name))) None
        = subst (Answers (λ t. (t < root_entries k) × (PlainAt l (slot_at k t) × (name_of l (slot_at k t) ≡ name)))) free
        (slot_named_answers l (slot_at k) (root_entries k) (slots_within l k v) name good.long) in
        entry_changed renamed rename_entry rename_stays rename_usual (λ t h n p e. none t (h, (p, e ∙ rename_name)))

    pub rename_holds : (f : File) → Holds k l s f → Holds k renamed s (file name f.attr f.bytes)
    rename_holds f h = entry_holds renamed rename_entry rename_stays f h name f.attr rename_name (rename_attr ∙ h.attr)

    pub rename_bytes : Bytes l → Bytes renamed
    rename_bytes b = bytes_stored l a name b good.bytes

  -- ---- file mode and close: the attribute, and words that mean nothing to soundness

  marks_before : FileMarks (attr_of l a)
  marks_before = record {
    plain = i.plain.1;
    not10 = λ e. usual_before (i.plain.0, inr (inl e));
    not40 = λ e. usual_before (i.plain.0, inr (inr (inl e)));
    not80 = λ e. usual_before (i.plain.0, inr (inr (inr e)));
  }

  module _ (m : List ℕ) (attr : ℕ) (x : Marked k l m s attr) (may : FileMarks attr) where
    marked_stays : FileStays k l m s
    marked_stays = record {
      plain = ((λ e. i.plain.0.0 (sym x.first ∙ e), λ e. i.plain.0.1 (sym x.first ∙ e)), rw x.is may.plain);
      start = x.start;
      size = x.size;
    }

    marked_usual : ¬ StrangeEntry k m s
    marked_usual (live, inl e) = usual_before (i.plain.0, inl (sym x.first ∙ e))
    marked_usual (live, inr (inl e)) = may.not10 (rw x.is at e)
    marked_usual (live, inr (inr (inl e))) = may.not40 (rw x.is at e)
    marked_usual (live, inr (inr (inr e))) = may.not80 (rw x.is at e)

    marked_changed : SlotChanged k l m s (root_chains k l a)
    marked_changed = entry_changed m x.entry marked_stays marked_usual (λ t h n p e. name_before t h n p (e ∙ x.name))

    marked_holds : (f : File) → Holds k l s f → Holds k m s (file f.name attr f.bytes)
    marked_holds f h = entry_holds m x.entry marked_stays f h f.name attr (x.name ∙ h.name) x.is

  -- the attribute stored
  attr_marked : (attr : ℕ) → Marked k l (with_attr l a attr) s attr
  attr_marked attr =
      let r : Untouched (with_attr l a attr) l (a + 11) 1 a = byte_leaves l (a + 11) attr a within in
      record {
        entry = entry_stored k u s i.below l (a + 11) (attr ∷ []) (omega arith) (omega arith);
        first = r.first (inl (omega arith));
        name = r.name (inr (omega arith));
        is = byte_back l (a + 11) attr (omega (arith, within));
        start = r.start (inl (omega arith));
        size = r.size (inl (omega arith));
      }

  -- and then the time or the date
  word_marked : (m : List ℕ) (attr : ℕ) → Marked k l m s attr → (o w : ℕ) → 22 ≤ o → o + 2 ≤ 26 → Marked k l (stored m (a + o) (digits w 2)) s attr
  word_marked m attr x o w low high =
      let fits : a + 32 ≤ length m = rw x.entry.frame.long within in
      let r : Untouched (stored m (a + o) (digits w 2)) m (a + o) 2 a = word_leaves m (a + o) w a fits in
      record {
        entry = entry_then k u s l m _ x.entry (entry_stored k u s i.below m (a + o) (digits w 2) (omega arith) (omega (arith, length_digits w 2)));
        first = r.first (inl (omega arith)) ∙ x.first;
        name = r.name (inr (omega arith)) ∙ x.name;
        is = r.attr (inl (omega arith)) ∙ x.is;
        start = r.start (inl (omega arith)) ∙ x.start;
        size = r.size (inl (omega arith)) ∙ x.size;
      }

  -- ---- file mode, function 1

  module _ (attr : ℕ) (may : bad_attr attr ≡ false) where
    pub mode_changed : SlotChanged k l (with_attr l a attr) s (root_chains k l a)
    mode_changed = marked_changed (with_attr l a attr) attr (attr_marked attr) (allowed_marks attr may)

    pub mode_holds : (f : File) → Holds k l s f → Holds k (with_attr l a attr) s (file f.name attr f.bytes)
    mode_holds = marked_holds (with_attr l a attr) attr (attr_marked attr) (allowed_marks attr may)

    pub mode_bytes : Bytes l → Bytes (with_attr l a attr)
    mode_bytes b = bytes_stored l (a + 11) (attr ∷ []) b (bytes_one attr (attr_fits attr (bad_attr attr) refl may))

  -- ---- close of a file that was written

  module _ (time date : ℕ) where
    stamp_marked : Marked k l (stamped l a time date) s (archived (attr_of l a))
    unfolding stamped
    stamp_marked =
        let timed = word_marked _ _ (attr_marked (archived (attr_of l a))) 22 time (omega arith) (omega arith) in
        word_marked _ _ timed 24 date (omega arith) (omega arith)

    stamp_may : FileMarks (archived (attr_of l a))
    stamp_may = archived_marks (attr_of l a) marks_before

    pub close_changed : SlotChanged k l (stamped l a time date) s (root_chains k l a)
    close_changed = marked_changed (stamped l a time date) _ stamp_marked stamp_may

    pub close_holds : (f : File) → Holds k l s f → Holds k (stamped l a time date) s (file f.name (archived f.attr) f.bytes)
    close_holds f h =
        subst (λ (x : ℕ). Holds k (stamped l a time date) s (file f.name (archived x) f.bytes)) h.attr
        (marked_holds (stamped l a time date) _ stamp_marked stamp_may f h)

    pub close_bytes : Bytes l → Bytes (stamped l a time date)
    unfolding stamped
    close_bytes b =
        bytes_stored _ (a + 24) (digits date 2)
        (bytes_stored _ (a + 22) (digits time 2)
        (bytes_stored l (a + 11) _ b (bytes_one (archived (attr_of l a)) (archived_byte (attr_of l a) (b (a + 11)))))
        (bytes_digits time 2)) (bytes_digits date 2)
