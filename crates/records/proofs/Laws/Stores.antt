-- A place of the table stored as bytes is one record of the row stored, and no other.
use Rattle.std.specs.Prelude.{ℕ, ◌+◌, ◌/◌, ◌<◌, Bool, true, List, ◌≢◌, ◌≡◌, length, get_or, set}
use native.Mathlib.Omega.{arith}
use Rattle.std.proofs.Math.Decide.{ℕ_discrete}
use Rattle.std.proofs.Common.{inl, inr, sym, ap, ◌∙◌, lt→ltb, length-set, get_or-set_same, get_or-set_other, ext_get_or}
use Rattle.image.specs.Store.{stored}
use Rattle.image.specs.Numbers.{number, digits}
use Rattle.image.proofs.Laws.Store.{stored_inside}
use Rattle.image.proofs.Laws.Numbers.{length_digits, number_same}
use Rattle.opened.specs.Records.{place_count, place_at, pointer_of, with_record, with_pointer, with_written, cleared}
use Rattle.opened.specs.Changes.{OnlyAt}
use Rattle.opened.proofs.Laws.Records.{untouched}
use Rattle.opened.proofs.Laws.Stores.{record_only, record_holds, pointer_only, pointer_holds, written_only, written_holds, cleared_only, cleared_holds}
use Rattle.records.specs.declared.OpenRecord.{OpenRecord}
use Rattle.records.specs.Row.{unused, record_of, row_of, with_record_at}
use Rattle.records.proofs.Laws.Row.{put_within}
use Rattle.records.specs.Seek.{moved_to}
use Rattle.records.proofs.Laws.Alike.{row_length, row_reads, record_of_lem}

-- where place p alone has changed, and to r
module _ (m t : List ℕ) (p : ℕ) (k : p < place_count t) (only : OnlyAt p m t) (r : OpenRecord) (is : record_of m p ≡ r) where
  other : (q : ℕ) → p ≢ q → record_of m q ≡ record_of t q
  unfolding record_of
  other q d = record_of_lem m q (record_of t q) (only.others q (λ e. d (sym e)))

  as_set : row_of m ≡ set (row_of t) p r
  as_set = ext_get_or unused (row_of m) (set (row_of t) p r) long each
    where
      long : length (row_of m) ≡ length (set (row_of t) p r)
      long = row_length m ∙ ap (λ (n : ℕ). n / 16) only.long ∙ sym (row_length t) ∙ sym (length-set (row_of t) p r)

      each : (q : ℕ) → q < length (row_of m) → get_or (row_of m) q unused ≡ get_or (set (row_of t) p r) q unused
      each q h =
          let a = row_length m in
          let b = row_length t in
          let c : length m ≡ length t = only.long in
          let d : length m / 16 ≡ length t / 16 = ap (λ (n : ℕ). n / 16) c in
          row_reads m q (omega arith) ∙ elim (ℕ_discrete p q) [
            | yes e ↦ ap (record_of m) (sym e) ∙ is ∙ sym (get_or-set_same (row_of t) p r unused (omega arith)) ∙ ap (λ (i : ℕ). get_or (set (row_of t) p r) i unused) e
            | no e ↦ other q e ∙ sym (row_reads t q (omega arith)) ∙ sym (get_or-set_other (row_of t) p q r unused (λ f. e (sym f)))
          ]

  pub row_set : row_of m ≡ with_record_at (row_of t) p r
  row_set =
      let e = row_length t in
      as_set ∙ put_within (row_of t) p r (lt→ltb p 16 (omega arith)) (lt→ltb p (length (row_of t)) (omega arith))

-- ---- a pointer stored and read back: its four bytes, whether or not it fits them

abbrev pub as_stored : ℕ → ℕ
as_stored v = number (digits v 4) 0 4

module _ (t : List ℕ) (p : ℕ) (k : p < place_count t) (v : ℕ) where
  pointer_back : pointer_of (with_pointer t p v) p ≡ as_stored v
  unfolding pointer_of with_pointer
  pointer_back =
      let l = length_digits v 4 in
      number_same (stored t (place_at p + 8) (digits v 4)) (digits v 4) (place_at p + 8) 0 4 (λ i j. let q : 0 + i ≡ i = omega arith in rw q (stored_inside t (place_at p + 8) (digits v 4) i (omega arith) (omega arith)))

  pub moved_back : record_of (with_pointer t p v) p ≡ moved_to (record_of t p) (as_stored v)
  unfolding record_of with_pointer
  moved_back =
      let u = untouched t (place_at p + 8) 4 (digits v 4) (length_digits v 4) p in
      record_of_lem (with_pointer t p v) p (moved_to (record_of t p) (as_stored v))
      record {
        used = u.used (inl (omega arith));
        access = u.access (inl (omega arith));
        slot = u.slot (inr (omega arith));
        pointer = pointer_back;
        written = u.written (inl (omega arith));
      }

-- ---- each store

module _ (t : List ℕ) (p : ℕ) (k : p < place_count t) where
  -- a place taken
  module _ (access slot pointer : ℕ) (written : Bool) (slot_fits : slot < 4294967296) (pointer_fits : pointer < 4294967296) where
    abbrev taken : OpenRecord
    taken = record { used = true; slot = slot; access = access; pointer = pointer; written = written }

    pub row_taken : row_of (with_record t p access slot pointer written) ≡ with_record_at (row_of t) p taken
    row_taken =
        let m = with_record t p access slot pointer written in
        row_set m t p k (record_only t p k access slot pointer written) taken (record_of_lem m p taken (record_holds t p k access slot pointer written slot_fits pointer_fits))

  -- its pointer moved
  pub row_moved : (v : ℕ) → v < 4294967296 → row_of (with_pointer t p v) ≡ with_record_at (row_of t) p (moved_to (record_of t p) v)
  unfolding record_of
  row_moved v h =
      let m = with_pointer t p v in
      let r = moved_to (record_of t p) v in
      row_set m t p k (pointer_only t p k v) r (record_of_lem m p r (pointer_holds t p k v h))

  -- its file written to
  abbrev pub as_written : OpenRecord
  as_written = let r = record_of t p in record { used = r.used; slot = r.slot; access = r.access; pointer = r.pointer; written = true }

  pub row_written : row_of (with_written t p) ≡ with_record_at (row_of t) p as_written
  unfolding record_of
  row_written = let m = with_written t p in row_set m t p k (written_only t p k) as_written (record_of_lem m p as_written (written_holds t p k))

  -- the place freed
  pub row_freed : row_of (cleared t p) ≡ with_record_at (row_of t) p unused
  row_freed = let m = cleared t p in row_set m t p k (cleared_only t p k) unused (record_of_lem m p unused (cleared_holds t p k))
