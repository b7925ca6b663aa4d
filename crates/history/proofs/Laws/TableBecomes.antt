-- The open table after each call that ends well: no place but the call's own has changed, its own is as the call says, and bytes
-- stay bytes.
use Rattle.std.specs.Prelude.{ℕ, ◌+◌, ◌<◌, true, false, List, ◌≡◌, refl}
use Rattle.std.proofs.Common.{arith, inl, inr, sym, ap, ◌∙◌, subst, lt-ltb}
use Rattle.image.specs.Bytes.{Bytes}
use Rattle.diskette.specs.declared.Kind.{Kind}
use Rattle.opened.specs.Changes.{OnlyAt}
use Rattle.opened.specs.Records.{place_count, pointer_of, written_of, with_written}
use Rattle.opened.proofs.Laws.Records.{pointer_small}
use Rattle.opened.proofs.Laws.Stores.{record_only, record_bytes_lem, pointer_only, pointer_holds, pointer_bytes}
use Rattle.opened.proofs.Laws.Stores.{written_only, written_holds, written_bytes, cleared_only, cleared_holds, cleared_bytes}
use Rattle.opened.proofs.Laws.Uses.{only_count}
use Rattle.calls.specs.Aids.Ready.{OnVolume}
use Rattle.history.specs.Aids.Ours.{run}
use Rattle.history.specs.Handles.{Moved, TableBecomes, PointersMove}
use Rattle.history.specs.World.{World, Call, ours, look, open_file, create, read, write, seek, close, delete, rename, mode}
use Rattle.history.proofs.Laws.Begins.{on}
use Rattle.history.proofs.Laws.Looks.{looks_alter_nothing}
use Rattle.history.proofs.Laws.Runs.{begins_run}
use Rattle.history.proofs.Laws.TableStored.{Took, Pointed, open_took, create_took, read_pointed, write_pointed, seek_pointed}
use Rattle.history.proofs.Laws.TableStored.{close_freed, delete_same, rename_same, mode_same}

-- nothing stored; one store after the other
only_same : (p : ℕ) (t : List ℕ) → OnlyAt p t t
only_same p t = record {
  long = refl;
  others = λ q d. record { used = refl; access = refl; slot = refl; pointer = refl; written = refl };
  past = λ j h. refl;
}

only_both : (p : ℕ) (m n t : List ℕ) → OnlyAt p m n → OnlyAt p n t → OnlyAt p m t
only_both p m n t x y = record {
  long = x.long ∙ y.long;
  others = λ q d.
      let a = x.others q d in
      let b = y.others q d in
      record {
        used = a.used ∙ b.used;
        access = a.access ∙ b.access;
        slot = a.slot ∙ b.slot;
        pointer = a.pointer ∙ b.pointer;
        written = a.written ∙ b.written;
      };
  past = λ j h. x.past j (rw (only_count p n t y) h) ∙ y.past j h;
}

-- ---- a place taken

module _ (k : Kind) (w : World) (bytes : Bytes w.table) where
  took_only : (c : Call) (access s : ℕ) → Took k w c access s (ours c w)
      → OnlyAt (ours c w).value (ours c w).table w.table × Bytes (ours c w).table
  took_only c access s x = rw x.table (
    record_only w.table (ours c w).value x.lowest.0.0 access s 0 false,
    record_bytes_lem w.table (ours c w).value x.lowest.0.0 access s 0 false bytes (omega (arith, x.access_fits)),
  )

-- ---- a pointer moved

module _ (t : List ℕ) (bytes : Bytes t) (h v : ℕ) (m : List ℕ) (x : Pointed t h v m) where
  pointed_moved : Moved t m h v (written_of t h) × Bytes m
  pointed_moved = rw x.table (
    (pointer_only t h x.counted v, pointer_holds t h x.counted v (x.fits (pointer_small t h bytes))),
    pointer_bytes t h x.counted v bytes,
  )

  -- and the place marked as written
  marked_moved : Moved t (with_written m h) h v true × Bytes (with_written m h)
  marked_moved =
      let a = pointed_moved in
      let counts : h < place_count m = rw (only_count h m t a.0.0) x.counted in
      let b = written_holds m h counts in
      let y = a.0.1 in (
        (
          only_both h (with_written m h) m t (written_only m h counts) a.0.0,
          record {
            used = b.used ∙ y.used;
            access = b.access ∙ y.access;
            slot = b.slot ∙ y.slot;
            pointer = b.pointer ∙ y.pointer;
            written = b.written;
          },
        ),
        written_bytes m h counts a.1,
      )

-- ---- each call

module _ (k : Kind) (w : World) (v : OnVolume w.image k) (bytes : Bytes w.table) where
  abbrev t : List ℕ
  t = w.table

  abbrev Goes : Call → Type 0
  Goes c = TableBecomes c (ours c w).value t (ours c w).table × Bytes (ours c w).table

  write_goes : (h : ℕ) (bs : List ℕ) → (ours (write h bs) w).number ≡ 0 → Goes (write h bs)
  write_goes h bs well = elim (write_pointed k w v h bs well) [
    | inl x ↦
        let z : pointer_of t h + 0 ≡ pointer_of t h = omega arith in
        rw (x.0, x.1, z) ((only_same h t, record { used = refl; access = refl; slot = refl; pointer = refl; written = refl }), bytes)
    | inr x ↦ rw (x.2, lt-ltb 0 (ours (write h bs) w).value (omega (arith, x.1))) (marked_moved t bytes h _ x.0 x.3)
  ]

  stays : {m : List ℕ} → m ≡ t → (m ≡ t) × Bytes m
  stays e = (e, subst Bytes (sym e) bytes)

  pub goes : (c : Call) → (ours c w).number ≡ 0 → Goes c
  goes (look x) well = stays (ap (λ (u : World). u.table) (looks_alter_nothing w x))
  goes (open_file name access) well = took_only k w bytes (open_file name access) access _ (open_took k w v name access well)
  goes (create name attr stamp) well = took_only k w bytes (create name attr stamp) 2 _ (create_took k w v name attr stamp well).1
  goes (read h buffer) well = pointed_moved t bytes h _ _ (read_pointed k w v h buffer well)
  goes (write h bs) well = write_goes h bs well
  goes (seek h method offset) well = pointed_moved t bytes h _ _ (seek_pointed k w v h method offset well)
  goes (close h stamp) well =
      let x = close_freed k w v h stamp well in
      rw x.1 ((cleared_only t h x.0, cleared_holds t h x.0), cleared_bytes t h x.0 bytes)
  goes (delete name) well = stays (delete_same k w v name)
  goes (rename name new) well = stays (rename_same k w v name new)
  goes (mode name function attr) well = stays (mode_same k w v name function attr)

pub pointers_move : PointersMove ours
pointers_move k w b cs g c bytes = goes k (run w cs) (on (begins_run k cs w b g)) bytes c
