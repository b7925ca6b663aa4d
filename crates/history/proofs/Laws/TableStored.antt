-- What a call that ends well stores in the open table: a place taken, a pointer moved, a place freed, or nothing.
use Rattle.std.specs.Prelude.{ℕ, ◌+◌, ◌≤◌, ◌<◌, Bool, cond, ◌&&◌, ◌⊎◌, ◌≢◌, ◌≡◌, eqb, leb, ltb, ℤ, pos, negsuc, ◌+ℤ◌, length, Option, Some, None}
use Rattle.std.proofs.Common.{arith, sym, ◌∙◌}
use Rattle.std.proofs.Math.Decide.{ℕ_discrete}
use Rattle.std.proofs.Math.Bool.{true, false, not}
use mathlib.Core.List.{List, []}
use Rattle.std.proofs.Math.Logic.{inl, inr}
use Rattle.std.proofs.Math.Path.{refl, ap, subst}
use borrow.Author.Tests.{eq-eqb, ne_eqb, leb-true, ltb-false}
use Rattle.holding.proofs.Laws.Chain.{file_at}
use Rattle.diskette.specs.Places.{slot_at}
use Rattle.diskette.specs.declared.Kind.{Kind}
use Rattle.fields.specs.Fields.{size_of}
use Rattle.names.specs.Reading.{name_given, name_bytes}
use Rattle.offset.specs.Offset.{as_pointer, moved_by}
use Rattle.search.specs.Search.{is_found, Lowest, Answers}
use Rattle.stamps.specs.Stamps.{packed}
use Rattle.stamps.specs.declared.Stamp.{Stamp}
use Rattle.opened.specs.Places.{is_open, lowest_unused}
use Rattle.opened.specs.Records.{place_count, used_of, slot_of, pointer_of, with_record, with_pointer, with_written, cleared}
use Rattle.opened.proofs.Laws.Places.{unused_answers}
use Rattle.calls.specs.Answers.{value_told}
use Rattle.calls.specs.Outcome.{Row, Outcome, refusal, decided}
use Rattle.calls.specs.Aids.Ready.{OnVolume}
use Rattle.calls.specs.Refusals.{place_found, the_kind, no_file, file_slot, no_place, free_place, slot_for_new}
use Rattle.calls.proofs.Laws.Ready.{on_kind_lem}
use Rattle.sound.specs.Files.{IsFile}
use Rattle.freeing.specs.Freed.{chain_freed}
use Rattle.opening.specs.Open.{open_rows, open_effect, open_outcome}
use Rattle.creating.specs.Create.{made_by, create_rows, create_effect, create_outcome}
use Rattle.seeking.specs.Seek.{answer_of, seek_rows, seek_effect, seek_outcome}
use Rattle.closing.specs.Close.{close_rows, close_effect, close_outcome}
use Rattle.deleting.specs.Delete.{delete_rows, delete_effect, delete_outcome}
use Rattle.reading.specs.Read.{read_rows, read_effect, read_outcome}
use Rattle.renaming.specs.Rename.{rename_rows, rename_effect, rename_outcome}
use Rattle.marking.specs.Mode.{mode_rows, mode_effect, mode_outcome}
use Rattle.putting.proofs.Laws.Room.{room_own, room_fits}
use Rattle.writing.specs.Write.{write_count, write_rows, write_effect, write_outcome}
use Rattle.writing.proofs.Laws.Write.{pointer_fits}
use Rattle.history.specs.Meant.{Names}
use Rattle.history.specs.World.{World, Call, ours, open_file, create, read, write, seek, close, delete, rename, mode}
use Rattle.history.proofs.Laws.Found.{good_name, found_at, file_there, live_at, live_there}
use Rattle.history.proofs.Laws.Meant.{by_name, has_name, for_new}
use Rattle.history.proofs.Laws.OneNamed.{by_name_only}
use Rattle.history.proofs.Laws.Passed.{passed_row}
use Rattle.history.proofs.Laws.Rows.{decided_cases}

-- the lowest unused place of t is taken, for the slot s that the call names
pub record Took (k : Kind) (w : World) (c : Call) (access s : ℕ) (o : Outcome) : Type 0 where
  pub access_fits : access ≤ 2
  pub named : Names c k w s
  pub lowest : Lowest ltb (λ p. (p < place_count w.table) × (used_of w.table p ≡ false)) o.value
  pub table : o.table ≡ with_record w.table o.value access s 0 false

-- m is t with v as the pointer of place h
pub record Pointed (t : List ℕ) (h v : ℕ) (m : List ℕ) : Type 0 where
  pub counted : h < place_count t
  pub table : m ≡ with_pointer t h v
  pub fits : pointer_of t h < 4294967296 → v < 4294967296

-- a call that ended well has passed its rows
module _ (rows : List Row) (effect : Outcome) (l t b : List ℕ) where
  well_is : (decided rows effect l t b).number ≡ 0 → (refusal rows ≡ 0) × (decided rows effect l t b ≡ effect)
  well_is e = elim (decided_cases rows effect l t b) [
    | inl x ↦ absurd (x.0 (sym (ap (λ (o : Outcome). o.number) x.1) ∙ e))
    | inr x ↦ x
  ]

  -- an effect that leaves the table
  table_stays : effect.table ≡ t → (decided rows effect l t b).table ≡ t
  table_stays e = elim (decided_cases rows effect l t b) [
    | inl x ↦ ap (λ (o : Outcome). o.table) x.1
    | inr x ↦ ap (λ (o : Outcome). o.table) x.1 ∙ e
  ]

free_lowest : (t : List ℕ) → no_place t ≡ false → Lowest ltb (λ p. (p < place_count t) × (used_of t p ≡ false)) (free_place t)
free_lowest t e = subst (Answers (λ p. (p < place_count t) × (used_of t p ≡ false))) (found_at (lowest_unused t) e) (unused_answers t)

-- where an offset leads
moved_fits : (base : ℕ) (offset : ℤ) → value_told (answer_of (moved_by base offset)) < 4294967296
unfolding moved_by
moved_fits base offset = whole (pos base +ℤ offset)
  where
    below : (n : ℕ) (b : Bool) → leb n 4294967295 ≡ b → value_told (answer_of (cond b (Some n) None)) < 4294967296
    below n true e = omega (arith, leb-true n 4294967295 e)
    below n false e = omega arith

    whole : (z : ℤ) → value_told (answer_of (as_pointer z)) < 4294967296
    whole (pos n) = below n (leb n 4294967295) refl
    whole (negsuc n) = omega arith

module _ (k : Kind) (w : World) (v : OnVolume w.image k) where
  abbrev l : List ℕ
  l = w.image

  abbrev t : List ℕ
  t = w.table

  -- ---- open and create

  pub open_took : (name : List ℕ) (access : ℕ) → (ours (open_file name access) w).number ≡ 0
      → Took k w (open_file name access) access (file_slot l name) (ours (open_file name access) w)
  unfolding open_outcome
  open_took name access well =
      let x = well_is (open_rows l t name access) (open_effect l t name access) l t [] well in
      let row = passed_row (open_rows l t name access) refl x.0 in
      rw x.1 (record {
        access_fits = ltb-false 2 access (row 2);
        named = by_name k w v name (row 3) (row 4);
        lowest = free_lowest t (row 6);
        table = refl;
      })

  pub open_file_lem : (name : List ℕ) (access : ℕ) → (ours (open_file name access) w).number ≡ 0 → IsFile k l (file_slot l name)
  unfolding open_outcome
  open_file_lem name access well =
      let x = well_is (open_rows l t name access) (open_effect l t name access) l t [] well in
      let i = file_there k l v name (passed_row (open_rows l t name access) refl x.0 4) in
      i

  module _ (name : List ℕ) (attr : ℕ) (stamp : Stamp) where
    abbrev Makes : Outcome → Type 0
    Makes o = (s : ℕ) × Took k w (create name attr stamp) 2 s o

    made_took : (m : List ℕ) (j : Kind) (s : ℕ) → Names (create name attr stamp) k w s → no_place t ≡ false → (words : Option (ℕ × ℕ))
        → Makes (made_by m t j s (name_bytes (name_given name)) attr words)
    made_took m j s named room (Some (time, date)) =
        (s, record { access_fits = omega arith; named = named; lowest = free_lowest t room; table = refl })
    made_took m j s named room None = (s, record { access_fits = omega arith; named = named; lowest = free_lowest t room; table = refl })

    either : (b : Bool) (o q : Outcome) → (b ≡ true → Makes o) → (b ≡ false → Makes q) → Makes (cond b o q)
    either true o q f g = f refl
    either false o q f g = g refl

    pub create_took : (ours (create name attr stamp) w).number ≡ 0 → Makes (ours (create name attr stamp) w)
    unfolding create_outcome
    create_took well =
        let x = well_is (create_rows l t name attr stamp) (create_effect l t name attr stamp) l t [] well in
        let row = passed_row (create_rows l t name attr stamp) refl x.0 in
        let fits = good_name name (row 2) in
        let found : (no_file l name && not (is_found (slot_for_new l))) ≡ false = row 7 in
        subst Makes (sym x.1) (either (no_file l name) _ _
        (λ e. made_took l (the_kind l) (place_found (slot_for_new l))
        (inr (for_new k l v name fits e (rw e at found))) (row 8) (packed stamp))
        (λ e. made_took (chain_freed (the_kind l) l (slot_at (the_kind l) (file_slot l name))) (the_kind l) (file_slot l name) (inl (has_name k l v name fits e)) (row 8)
        (packed stamp)))

  -- ---- read, write and seek

  pub read_pointed : (h : ℕ) (buffer : List ℕ) → (ours (read h buffer) w).number ≡ 0
      → Pointed t h (pointer_of t h + (ours (read h buffer) w).value) (ours (read h buffer) w).table
  unfolding read_outcome
  read_pointed h buffer well =
      let x = well_is (read_rows l t h) (read_effect l t h buffer) l t buffer well in
      let live = passed_row (read_rows l t h) refl x.0 2 in
      let i = live_there k l v t h live in
      let f = file_at l k v (slot_of t h) i (slot_at k (slot_of t h)) refl in
      let size : size_of l (slot_at k (slot_of t h)) < 4294967296 = omega (arith, room_own l k v (slot_at k (slot_of t h)) f, room_fits l k v (slot_at k (slot_of t h)) f) in
      rw (x.1, on_kind_lem l k v) (record { counted = (live_at k l v t h live).counted; table = refl; fits = λ small. omega (arith, size, small) })

  -- "If 0, nothing changes"
  pub write_pointed : (h : ℕ) (bs : List ℕ) → (ours (write h bs) w).number ≡ 0
      → (((ours (write h bs) w).value ≡ 0) × ((ours (write h bs) w).table ≡ t))
      ⊎ ((m : List ℕ) × ((ours (write h bs) w).value ≢ 0) × ((ours (write h bs) w).table ≡ with_written m h)
      × Pointed t h (pointer_of t h + (ours (write h bs) w).value) m)
  unfolding write_outcome write_effect
  write_pointed h bs well =
      let x = well_is (write_rows l t h) (write_effect l t h bs) l t [] well in
      let live = passed_row (write_rows l t h) refl x.0 2 in
      let n = write_count k l (slot_at k (slot_of t h)) (pointer_of t h) (length bs) in
      elim (ℕ_discrete n 0) [
        | yes z ↦ inl (rw (x.1, on_kind_lem l k v, eq-eqb n 0 z) (refl, refl))
        | no d ↦ inr (rw (x.1, on_kind_lem l k v, ne_eqb n 0 d) (
          with_pointer t h (pointer_of t h + n),
          d,
          refl,
          record {
            counted = (live_at k l v t h live).counted;
            table = refl;
            fits = λ small. pointer_fits l k (slot_at k (slot_of t h)) _ (pointer_of t h) (length bs) n refl refl d v (file_at l k v (slot_of t h) (live_there k l v t h live) (slot_at k (slot_of t h)) refl);
          },
        ))
      ]

  pub seek_pointed : (h method : ℕ) (offset : ℤ) → (ours (seek h method offset) w).number ≡ 0
      → Pointed t h (ours (seek h method offset) w).value (ours (seek h method offset) w).table
  unfolding seek_outcome
  seek_pointed h method offset well =
      let x = well_is (seek_rows l t h method offset) (seek_effect l t h method offset) l t [] well in
      let live = passed_row (seek_rows l t h method offset) refl x.0 3 in
      rw x.1 (record { counted = (live_at k l v t h live).counted; table = refl; fits = λ small. moved_fits _ offset })

  -- ---- close, and the calls that leave the table

  pub close_freed : (h : ℕ) (stamp : Stamp) → (ours (close h stamp) w).number ≡ 0
      → (h < place_count t) × ((ours (close h stamp) w).table ≡ cleared t h)
  unfolding close_outcome
  close_freed h stamp well =
      let x = well_is (close_rows l t h stamp) (close_effect l t h stamp) l t [] well in
      ((live_at k l v t h (passed_row (close_rows l t h stamp) refl x.0 3)).counted, ap (λ (o : Outcome). o.table) x.1)

  pub delete_same : (name : List ℕ) → (ours (delete name) w).table ≡ t
  unfolding delete_outcome
  delete_same name = table_stays (delete_rows l t name) (delete_effect l t name) l t [] refl

  pub rename_same : (name new : List ℕ) → (ours (rename name new) w).table ≡ t
  unfolding rename_outcome
  rename_same name new = table_stays (rename_rows l t name new) (rename_effect l t name new) l t [] refl

  pub mode_same : (name : List ℕ) (function attr : ℕ) → (ours (mode name function attr) w).table ≡ t
  unfolding mode_outcome
  mode_same name function attr =
      table_stays (mode_rows l t name function attr) (mode_effect l t name function attr) l t [] (either_same (eqb function 1) _ _ refl refl)
    where
      either_same : (b : Bool) (o q : Outcome) → o.table ≡ t → q.table ≡ t → (cond b o q).table ≡ t
      either_same true o q e f = e
      either_same false o q e f = f

  -- delete is refused where the file is open
  pub delete_closed : (name : List ℕ) → (ours (delete name) w).number ≡ 0 → (s : ℕ) → Names (delete name) k w s → is_open t s ≡ false
  unfolding delete_outcome
  delete_closed name well s x =
      let row = passed_row (delete_rows l t name) refl (well_is (delete_rows l t name) (delete_effect l t name) l t [] well).0 in
      rw (by_name_only k w v name (row 2) (row 3) s x) (row 4)
