-- Each call spares a read-only file whose places only read: the image stays, or the call names another file; and its places only
-- read still.
use Rattle.std.specs.Prelude.{ℕ, ◌<◌, Bool, true, cond, ◌&&◌, ◌⊎◌, ◌≡◌, eqb, ltb, ℤ, length, Option, Some, None}
use Rattle.std.proofs.Common.{arith, sym, ap, subst}
use Rattle.std.proofs.Math.Decide.{ℕ_discrete}
use Rattle.std.proofs.Math.Bool.{false, not}
use mathlib.Core.List.{List, []}
use Rattle.std.proofs.Math.Logic.{inl, inr}
use Rattle.std.proofs.Math.Path.{refl}
use borrow.Author.Tests.{eqb-true, eqb-false, lt-ltb}
use Rattle.chains.proofs.Laws.Tests.{clash}
use Rattle.diskette.specs.Places.{slot_at}
use Rattle.diskette.specs.declared.Kind.{Kind}
use Rattle.directory.specs.Slots.{VacantAt}
use Rattle.names.specs.Reading.{name_given, name_bytes}
use Rattle.stamps.specs.Stamps.{packed}
use Rattle.stamps.specs.declared.Stamp.{Stamp}
use Rattle.search.specs.Search.{is_found}
use Rattle.opened.specs.Records.{slot_of, pointer_of, access_of}
use Rattle.sound.specs.Files.{IsFile}
use Rattle.calls.specs.Outcome.{Row, Outcome, refusal, decided}
use Rattle.calls.specs.Aids.Ready.{OnVolume}
use Rattle.calls.specs.Refusals.{place_found, the_kind, bad_name, no_file, file_slot, read_only, not_live, no_place, free_place, slot_for_new}
use Rattle.calls.proofs.Laws.Ready.{on_usable}
use Rattle.creating.specs.Create.{made, made_by, create_rows, create_effect, create_outcome}
use Rattle.deleting.specs.Delete.{delete_rows, delete_effect, delete_outcome}
use Rattle.freeing.specs.Freed.{chain_freed}
use Rattle.marking.specs.Mode.{mode_rows, mode_effect, mode_outcome}
use Rattle.renaming.specs.Rename.{rename_rows, rename_effect, rename_outcome}
use Rattle.closing.specs.Close.{close_rows, close_effect, close_outcome}
use Rattle.opening.specs.Open.{open_rows, open_effect, open_outcome}
use Rattle.seeking.specs.Seek.{seek_rows, seek_effect, seek_outcome}
use Rattle.reading.specs.Read.{read_rows, read_effect, read_outcome}
use Rattle.writing.specs.Write.{write_count, write_rows, write_effect, write_outcome}
use Rattle.history.specs.Meant.{HasName, Names}
use Rattle.history.specs.World.{World, Call, ours, open_file, create, read, write, seek, close, delete, rename, mode}
use Rattle.history.proofs.Laws.Found.{good_name, place_counts, named_small, live_at, new_slot_lem}
use Rattle.history.proofs.Laws.Meant.{has_name, for_new}
use Rattle.history.proofs.Laws.OneNamed.{names_one, by_name_only}
use Rattle.history.proofs.Laws.Passed.{passed_row}
use Rattle.history.proofs.Laws.Rows.{decided_cases}
use Rattle.history.proofs.Laws.TarePlaces.{Watched, ReadsOnly, record_watched, pointer_watched, wrote_watched, cleared_watched}

-- a read-only file whose places, where it has any, only read
pub record Guarded (k : Kind) (w : World) (s : ℕ) : Type 0 where
  pub is_file : IsFile k w.image s
  pub marked : read_only w.image s ≡ true
  pub places : Watched w.table s

-- the call c spares slot s, if o is its outcome: the image stays, or the call does not name the slot; and it is watched still
pub record Spares (k : Kind) (w : World) (s : ℕ) (c : Call) (o : Outcome) : Type 0 where
  pub image : (o.image ≡ w.image) ⊎ ¬ Names c k w s
  pub places : Watched o.table s

module _ (k : Kind) (w : World) (s : ℕ) (c : Call) where
  -- a refusal spares it; so there is the effect to look at, where the rows are passed
  decided_spares : (rows : List Row) (effect : Outcome) (b : List ℕ) → Watched w.table s
      → (refusal rows ≡ 0 → Spares k w s c effect) → Spares k w s c (decided rows effect w.image w.table b)
  decided_spares rows effect b x f = elim (decided_cases rows effect w.image w.table b) [
    | inl y ↦ subst (Spares k w s c) (sym y.1) (record { image = inl refl; places = x })
    | inr y ↦ subst (Spares k w s c) (sym y.1) (f y.0)
  ]

  -- one of two outcomes
  either_spares : (b : Bool) (o q : Outcome) → (b ≡ true → Spares k w s c o) → (b ≡ false → Spares k w s c q) → Spares k w s c (cond b o q)
  either_spares true o q f g = f refl
  either_spares false o q f g = g refl

-- ---- what a row that was passed says where one of its tests holds

first_holds : (a b : Bool) → (a && b) ≡ false → a ≡ true → b ≡ false
first_holds true b e f = e
first_holds false b e f = absurd (clash f refl)

second_holds : (a b : Bool) → (a && b) ≡ false → b ≡ true → a ≡ false
second_holds true b e f = absurd (clash f e)
second_holds false b e f = refl

not_above : (n : ℕ) → ltb 0 n ≡ false → n ≡ 0
not_above n e = elim (ℕ_discrete n 0) [ yes z ↦ z | no d ↦ absurd (clash (lt-ltb 0 n (omega arith)) e) ]

module _ (k : Kind) (w : World) (v : OnVolume w.image k) (s : ℕ) (g : Guarded k w s) where
  abbrev l : List ℕ
  l = w.image

  abbrev t : List ℕ
  t = w.table

  abbrev Spared : Call → Type 0
  Spared c = Spares k w s c (ours c w)

  -- a slot whose file is not read-only is another, and its name is of another file
  other_slot : (slot : ℕ) → read_only l slot ≡ false → ¬ (s ≡ slot)
  other_slot slot e q = clash (subst (λ (n : ℕ). read_only l n ≡ true) q g.marked) e

  other_file : (name : List ℕ) → bad_name name ≡ false → no_file l name ≡ false → read_only l (file_slot l name) ≡ false
      → ¬ HasName k l name s
  other_file name good there writable x = other_slot (file_slot l name) writable (by_name_only k w v name good there s x)

  -- ---- delete and rename: the row of read-only files was passed

  pub delete_spares : (name : List ℕ) → Spared (delete name)
  unfolding delete_outcome
  delete_spares name = decided_spares k w s (delete name) (delete_rows l t name) (delete_effect l t name) [] g.places (λ p.
      let row = passed_row (delete_rows l t name) refl p in
      record { image = inr (other_file name (row 2) (row 3) (row 5)); places = g.places })

  pub rename_spares : (name new : List ℕ) → Spared (rename name new)
  unfolding rename_outcome
  rename_spares name new = decided_spares k w s (rename name new) (rename_rows l t name new) (rename_effect l t name new) [] g.places (λ p.
      let row = passed_row (rename_rows l t name new) refl p in
      record { image = inr (other_file name (row 2) (row 4) (row 6)); places = g.places })

  -- ---- file mode: function 1 is on another file, and any other function leaves the image

  pub mode_spares : (name : List ℕ) (function attr : ℕ) → (function ≡ 1 → ¬ HasName k l name s) → Spared (mode name function attr)
  unfolding mode_outcome
  mode_spares name function attr unset =
      decided_spares k w s (mode name function attr) (mode_rows l t name function attr) (mode_effect l t name function attr) [] g.places (λ p.
      either_spares k w s (mode name function attr) (eqb function 1) _ _
      (λ e. record { image = inr (unset (eqb-true function 1 e)); places = g.places })
      (λ e. record { image = inl refl; places = g.places }))

  -- ---- open: access 0, as the file is read-only

  pub open_spares : (name : List ℕ) (access : ℕ) → Spared (open_file name access)
  unfolding open_outcome
  open_spares name access = decided_spares k w s (open_file name access) (open_rows l t name access) (open_effect l t name access) [] g.places (λ p.
      let row = passed_row (open_rows l t name access) refl p in
      record {
        image = inl refl;
        places =
            record_watched t s g.places (free_place t) (place_counts t (row 6)) access (file_slot l name) (named_small k l v name (row 4))
            (λ e. reads e (row 5));
      })
    where
      reads : file_slot l name ≡ s → (ltb 0 access && read_only l (file_slot l name)) ≡ false → access ≡ 0
      reads e row =
          not_above access
          (second_holds (ltb 0 access) (read_only l (file_slot l name)) row (subst (λ (n : ℕ). read_only l n ≡ true) (sym e) g.marked))

  -- ---- read and seek: the pointer of a live place

  pub read_spares : (h : ℕ) (buffer : List ℕ) → Spared (read h buffer)
  unfolding read_outcome
  read_spares h buffer = decided_spares k w s (read h buffer) (read_rows l t h) (read_effect l t h buffer) buffer g.places (λ p.
      let live = live_at k l v t h (passed_row (read_rows l t h) refl p 2) in
      record { image = inl refl; places = pointer_watched t s g.places h live.counted _ })

  pub seek_spares : (h method : ℕ) (offset : ℤ) → Spared (seek h method offset)
  unfolding seek_outcome
  seek_spares h method offset =
      decided_spares k w s (seek h method offset) (seek_rows l t h method offset) (seek_effect l t h method offset) [] g.places (λ p.
      let live = live_at k l v t h (passed_row (seek_rows l t h method offset) refl p 3) in
      record { image = inl refl; places = pointer_watched t s g.places h live.counted _ })

  -- ---- write and close: a place of this file has access 0, and is not marked as written

  reads_only : (h : ℕ) → not_live l t h ≡ false → slot_of t h ≡ s → ReadsOnly t h
  reads_only h e q = let live = live_at k l v t h e in g.places h live.counted (record { used = live.used; names = q })

  pub write_spares : (h : ℕ) (bs : List ℕ) → Spared (write h bs)
  unfolding write_outcome write_effect
  write_spares h bs = decided_spares k w s (write h bs) (write_rows l t h) (write_effect l t h bs) [] g.places (λ p.
      let row = passed_row (write_rows l t h) refl p in
      let other : ¬ (slot_of t h ≡ s) = λ q. eqb-false (access_of t h) 0 (row 3) (reads_only h (row 2) q).access in
      either_spares k w s (write h bs) (eqb (write_count (the_kind l) l (slot_at (the_kind l) (slot_of t h)) (pointer_of t h) (length bs)) 0) _ _
      (λ e. record { image = inl refl; places = g.places })
      (λ e. record { image = inr (λ x. other x.slot); places = wrote_watched t s g.places h (live_at k l v t h (row 2)).counted other _ }))

  pub close_spares : (h : ℕ) (stamp : Stamp) → Spared (close h stamp)
  unfolding close_outcome
  close_spares h stamp = decided_spares k w s (close h stamp) (close_rows l t h stamp) (close_effect l t h stamp) [] g.places (λ p.
      let live = passed_row (close_rows l t h stamp) refl p 3 in
      record {
        image = elim (ℕ_discrete (slot_of t h) s) [
          | yes q ↦ inl (rw (reads_only h live q).written refl)
          | no d ↦ inr (λ x. d x.slot)
        ];
        places = cleared_watched t s g.places h (live_at k l v t h live).counted;
      })

  -- ---- create: a file of that name is not read-only, and a new one takes an open slot

  module _ (name : List ℕ) (attr : ℕ) (stamp : Stamp) where
    -- a place is taken for another slot, the one that is named
    module _ (slot : ℕ) (small : slot < 4294967296) (other : ¬ (s ≡ slot)) (named : Names (create name attr stamp) k w slot)
        (room : no_place t ≡ false) (m : List ℕ) (j : Kind) where
      made_spares : (time date : ℕ) → Spares k w s (create name attr stamp) (made m t j slot (name_bytes (name_given name)) attr time date)
      made_spares time date = record {
        image = inr (λ x. other (names_one k w v s slot (create name attr stamp) x named));
        places = record_watched t s g.places (free_place t) (place_counts t room) 2 slot small (λ e. absurd (other (sym e)));
      }

      made_by_spares : (words : Option (ℕ × ℕ)) → Spares k w s (create name attr stamp) (made_by m t j slot (name_bytes (name_given name)) attr words)
      made_by_spares (Some (time, date)) = made_spares time date
      made_by_spares None = made_spares 0 0

    new_small : not (is_found (slot_for_new l)) ≡ false → place_found (slot_for_new l) < 4294967296
    new_small e = omega (arith, (new_slot_lem k l v e).0.0, (on_usable l k v).few_slots)

    new_other : not (is_found (slot_for_new l)) ≡ false → ¬ (s ≡ place_found (slot_for_new l))
    new_other e q = elim (subst (λ (n : ℕ). VacantAt l (slot_at k n)) (sym q) (new_slot_lem k l v e).0.1) [
      | inl z ↦ g.is_file.plain.0.1 z
      | inr z ↦ g.is_file.plain.0.0 z
    ]

    pub create_spares : Spared (create name attr stamp)
    unfolding create_outcome
    create_spares =
        decided_spares k w s (create name attr stamp) (create_rows l t name attr stamp) (create_effect l t name attr stamp) [] g.places (λ p.
        let row = passed_row (create_rows l t name attr stamp) refl p in
        let fits = good_name name (row 2) in
        either_spares k w s (create name attr stamp) (no_file l name) _ _
        (λ e. let found = first_holds (no_file l name) (not (is_found (slot_for_new l))) (row 7) e in
        made_by_spares (place_found (slot_for_new l)) (new_small found) (new_other found) (inr (for_new k l v name fits e found)) (row 8)
        l (the_kind l) (packed stamp))
        (λ e. let writable = first_holds (not (no_file l name)) (read_only l (file_slot l name)) (row 6) (ap not e) in
        made_by_spares (file_slot l name) (named_small k l v name e) (other_slot (file_slot l name) writable) (inl (has_name k l v name fits e)) (row 8)
        (chain_freed (the_kind l) l (slot_at (the_kind l) (file_slot l name))) (the_kind l) (packed stamp)))
