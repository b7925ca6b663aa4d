-- Each call on two tables with the same record at the handle's place.
use Rattle.std.specs.Prelude.{ℕ, ◌+◌, ◌<◌, Bool, true, false, cond, ◌≡◌, refl, ltb, ℤ, length, take}
use Rattle.std.proofs.Common.{arith, sym, ◌∙◌}
use mathlib.Core.List.{List, [], ◌∷◌}
use Rattle.std.proofs.Math.Path.{ap}
use Rattle.std.proofs.Math.Dec.{eqb}
use Rattle.fields.specs.Fields.{size_of}
use Rattle.stamps.specs.declared.Stamp.{Stamp}
use Rattle.opened.specs.Records.{place_count, used_of, slot_of, access_of, pointer_of, written_of, with_pointer, with_written}
use Rattle.opened.specs.Changes.{PlaceHolds}
use Rattle.opened.proofs.Laws.Stores.{pointer_only}
use Rattle.opened.proofs.Laws.Uses.{only_count}
use Rattle.calls.specs.Outcome.{Row, Outcome, outcome, decided}
use Rattle.calls.specs.Numbers.{of_no_kind, unsound, invalid_function, out_of_range, invalid_handle, access_denied}
use Rattle.calls.specs.Refusals.{the_kind, not_of_kind, not_sound, bad_stamp, not_live, address_of}
use Rattle.calls.specs.Answers.{value_told}
use Rattle.seeking.specs.Seek.{answer_of, seek_base, seek_moved, is_beyond, seek_effect, seek_outcome}
use Rattle.closing.specs.Close.{close_effect, close_outcome}
use Rattle.reading.specs.Read.{read_count, read_effect, read_outcome}
use Rattle.putting.specs.Written.{written_in}
use Rattle.writing.specs.Write.{write_count, write_effect, write_outcome}
use Rattle.records.specs.Row.{unused, record_of, row_of, record_at, with_record_at}
use Rattle.records.specs.Seek.{moved_to}
use Rattle.records.proofs.Laws.Alike.{fields_of}
use Rattle.records.proofs.Laws.Stores.{as_stored, moved_back, row_set, row_written, row_freed}
use Rattle.records.specs.declared.OpenRecord.{OpenRecord}
use Rattle.lending.proofs.Laws.Same.{put_twice, live_counted, Same, live_same, fields_same, refused, row_same, rows_over}

-- ---- the stores at a place

abbrev marked : OpenRecord → OpenRecord
marked r = record { used = r.used; slot = r.slot; access = r.access; pointer = r.pointer; written = true }

module _ (t : List ℕ) (p : ℕ) (k : p < place_count t) (v : ℕ) where
  row_moved : row_of (with_pointer t p v) ≡ with_record_at (row_of t) p (moved_to (record_of t p) (as_stored v))
  row_moved = row_set (with_pointer t p v) t p k (pointer_only t p k v) (moved_to (record_of t p) (as_stored v)) (moved_back t p k v)

  -- and marked as written
  row_marked : row_of (with_written (with_pointer t p v) p) ≡ with_record_at (row_of t) p (marked (moved_to (record_of t p) (as_stored v)))
  row_marked =
      let m = with_pointer t p v in
      let c = only_count p m t (pointer_only t p k v) in
      row_written m p (omega arith) ∙ rw (row_moved, moved_back t p k v) (put_twice (row_of t) p (moved_to (record_of t p) (as_stored v)) (marked (moved_to (record_of t p) (as_stored v))))

-- ---- the calls

module _ (t : List ℕ) (h : ℕ) (t' : List ℕ) (h' : ℕ) (e : record_at (row_of t) h ≡ record_at (row_of t') h') (img : List ℕ) where
  -- what is known once the handle is live
  record Lives : Type 0 where
    there : h < place_count t
    here : h' < place_count t'
    same : record_of t h ≡ record_of t' h'
    fields : PlaceHolds t h (used_of t' h') (access_of t' h') (slot_of t' h') (pointer_of t' h') (written_of t' h')

  lives : not_live img t h ≡ false → Lives
  unfolding record_of
  lives live =
      let k = live_counted img t h live in
      let k' = live_counted img t' h' (sym (live_same t h t' h' e img) ∙ live) in
      let f = fields_same t h t' h' e k k' in
      record { there = k; here = k'; same = f; fields = fields_of t h (record_of t' h') f }

  -- ---- the rows that stand in every call's table

  module _ (x x' : Outcome) (buf : List ℕ) (rs rs' : List Row) where
    abbrev Decided : List Row → List Row → Type 0
    Decided us us' = Same t h t' h' (decided us x img t buf) (decided us' x' img t' buf)

    -- a test that asks nothing of the table
    plain_row : (a : Bool) (n : ℕ) → 0 < n → Decided rs rs' → Decided ((a, n) ∷ rs) ((a, n) ∷ rs')
    plain_row a n p s = row_same t h t' h' e x x' img buf a a refl n p rs rs' (λ _. s)

    volume_rows : Decided rs rs' → Decided ((not_of_kind img, of_no_kind) ∷ (not_sound img, unsound) ∷ rs) ((not_of_kind img, of_no_kind) ∷ (not_sound img, unsound) ∷ rs')
    volume_rows s =
        row_same t h t' h' e x x' img buf (not_of_kind img) (not_of_kind img) refl of_no_kind (omega arith) _ _
        (λ _. row_same t h t' h' e x x' img buf (not_sound img) (not_sound img) refl unsound (omega arith) rs rs' (λ _. s))

    live_row : (Lives → Decided rs rs') → Decided ((not_live img t h, invalid_handle) ∷ rs) ((not_live img t' h', invalid_handle) ∷ rs')
    live_row s = row_same t h t' h' e x x' img buf (not_live img t h) (not_live img t' h') (live_same t h t' h' e img) invalid_handle (omega arith) rs rs' (λ live. s (lives live))

  -- the last row, and the effect
  last_row : (x x' : Outcome) (buf : List ℕ) (a a' : Bool) → a ≡ a' → (n : ℕ) → 0 < n → Same t h t' h' x x'
      → Same t h t' h' (decided ((a, n) ∷ []) x img t buf) (decided ((a', n) ∷ []) x' img t' buf)
  last_row x x' buf a a' f n p s = row_same t h t' h' e x x' img buf a a' f n p [] [] (λ _. rows_over t h t' h' e x x' img buf s)

  -- ---- seek and read: the pointer moved to the same value

  moved_same : Lives → (v v' : ℕ) → v ≡ v' → (n n' : ℕ) → n ≡ n' → (b b' : List ℕ) → b ≡ b'
      → Same t h t' h' (outcome 0 n img (with_pointer t h v) b) (outcome 0 n' img (with_pointer t' h' v') b')
  moved_same w v v' x n n' y b b' z = record {
    number = refl;
    value = y;
    image = refl;
    buffer = z;
    after = moved_to (record_of t h) (as_stored v);
    there = row_moved t h w.there v;
    here = row_moved t' h' w.here v' ∙ rw (w.same, x);
  }

  module _ (method : ℕ) (offset : ℤ) where
    leads_same : Lives → seek_moved img t h method offset ≡ seek_moved img t' h' method offset
    unfolding seek_base
    leads_same w = rw (w.fields.pointer, w.fields.slot)

    pub seek_same : Same t h t' h' (seek_outcome img t h method offset) (seek_outcome img t' h' method offset)
    unfolding seek_outcome
    seek_same =
        let x = seek_effect img t h method offset in
        let x' = seek_effect img t' h' method offset in
        volume_rows x x' [] _ _
        (plain_row x x' [] _ _ (ltb 2 method) invalid_function (omega arith)
        (live_row x x' [] _ _
        (λ w.
        let m = leads_same w in
        let v = ap (λ y. value_told (answer_of y)) m in
        last_row x x' [] _ _ (ap is_beyond m) invalid_function (omega arith) (moved_same w _ _ v _ _ v [] [] refl))))

  module _ (buf : List ℕ) where
    count_same : Lives → read_count (length buf) (size_of img (address_of img (slot_of t h))) (pointer_of t h) ≡ read_count (length buf) (size_of img (address_of img (slot_of t' h'))) (pointer_of t' h')
    count_same w = rw (w.fields.pointer, w.fields.slot)

    pub read_same : Same t h t' h' (read_outcome img t h buf) (read_outcome img t' h' buf)
    unfolding read_outcome
    read_same =
        let x = read_effect img t h buf in
        let x' = read_effect img t' h' buf in
        volume_rows x x' buf _ _
        (live_row x x' buf _ _
        (λ w. last_row x x' buf _ _ (ap (λ (a : ℕ). eqb a 1) w.fields.access) access_denied (omega arith)
        (moved_same w _ _ (rw (w.fields.pointer, w.fields.slot)) _ _ (count_same w) _ _ (rw (w.fields.pointer, w.fields.slot)))))

  -- ---- close: the place freed

  pub close_same : (s : Stamp) → Same t h t' h' (close_outcome img t h s) (close_outcome img t' h' s)
  unfolding close_outcome
  close_same s =
      let x = close_effect img t h s in
      let x' = close_effect img t' h' s in
      volume_rows x x' [] _ _
      (plain_row x x' [] _ _ (bad_stamp s) out_of_range (omega arith)
      (live_row x x' [] [] []
      (λ w. rows_over t h t' h' e x x' img []
      record {
        number = refl;
        value = refl;
        image = rw (w.fields.written, w.fields.slot);
        buffer = refl;
        after = unused;
        there = row_freed t h w.there;
        here = row_freed t' h' w.here;
      })))

  -- ---- write: nothing where no byte is written, else the pointer moved and the place marked

  module _ (bs : List ℕ) where
    by_count : Lives → (z : Bool) (n v : ℕ) (after : List ℕ)
        → Same t h t' h' (cond z (outcome 0 0 img t []) (outcome 0 n after (with_written (with_pointer t h v) h) []))
        (cond z (outcome 0 0 img t' []) (outcome 0 n after (with_written (with_pointer t' h' v) h') []))
    by_count w true n v after = refused t h t' h' e 0 img []
    by_count w false n v after = record {
      number = refl;
      value = refl;
      image = refl;
      buffer = refl;
      after = marked (moved_to (record_of t h) (as_stored v));
      there = row_marked t h w.there v;
      here = row_marked t' h' w.here v ∙ rw w.same;
    }

    effect_same : Lives → Same t h t' h' (write_effect img t h bs) (write_effect img t' h' bs)
    unfolding write_effect
    effect_same w =
        let a = address_of img (slot_of t' h') in
        let pointer = pointer_of t' h' in
        let n = write_count (the_kind img) img a pointer (length bs) in
        rw (w.fields.pointer, w.fields.slot) (by_count w (eqb n 0) n (pointer + n) (written_in (the_kind img) img a pointer (take n bs)))

    pub write_same : Same t h t' h' (write_outcome img t h bs) (write_outcome img t' h' bs)
    unfolding write_outcome
    write_same =
        let x = write_effect img t h bs in
        let x' = write_effect img t' h' bs in
        volume_rows x x' [] _ _ (live_row x x' [] _ _ (λ w. last_row x x' [] _ _ (ap (λ (a : ℕ). eqb a 0) w.fields.access) access_denied (omega arith) (effect_same w)))
