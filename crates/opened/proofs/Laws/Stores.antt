-- After each of the four stores: what the place holds, that no other has changed, that bytes stay bytes. No law outside this
-- file and Records knows where a field stands.
use Rattle.std.specs.Prelude.{ℕ, zero, suc, ◌+◌, ◌*◌, ◌≤◌, ◌<◌, Bool, false, List, [], ◌∷◌, ◌++◌, ◌≡◌, eqb, length, get_or, replicate}
use native.Mathlib.Omega.{arith}
use Rattle.std.proofs.Math.Bool.{true, not}
use Rattle.std.proofs.Common.{inl, inr, ◌∙◌}
use Rattle.std.proofs.Math.Path.{refl, ap}
use Rattle.image.specs.Bytes.{Bytes}
use Rattle.image.specs.Store.{stored}
use Rattle.image.specs.Numbers.{number, digits}
use Rattle.image.proofs.Laws.Store.{bytes_one, bytes_append, and_then, bytes_stored, stored_inside}
use Rattle.image.proofs.Laws.Numbers.{length_digits, bytes_digits, number_same, number_stored}
use Rattle.directory.proofs.Laws.Entries.{byte_back}
use Rattle.opened.specs.Records.{place_count, place_at, used_of, slot_of, access_of, pointer_of, written_of, record_bytes, with_record, with_pointer, with_written, cleared}
use Rattle.opened.specs.Aids.Records.{mark_bytes, number_bytes}
use Rattle.chains.specs.Sums.{bit}
use Rattle.opened.specs.Changes.{PlaceHolds, OnlyAt}
use Rattle.opened.proofs.Laws.Records.{untouched, only_place}

-- ---- the bytes of a record

pub length_record : (access slot pointer : ℕ) (written : Bool) → length (record_bytes true access slot pointer written) ≡ 16
unfolding record_bytes mark_bytes number_bytes digits
length_record access slot pointer written = refl

mark_small : (b : Bool) → bit b < 256
mark_small true = omega arith
mark_small false = omega arith

mark_back : (b : Bool) → not (eqb (bit b) 0) ≡ b
mark_back true = refl
mark_back false = refl

bytes_marks : (access : ℕ) (written : Bool) → access < 256 → Bytes (mark_bytes access written)
unfolding mark_bytes
bytes_marks access written h zero = omega arith
bytes_marks access written h (suc zero) = h
bytes_marks access written h (suc (suc zero)) = mark_small written
bytes_marks access written h (suc (suc (suc zero))) = omega arith
bytes_marks access written h (suc (suc (suc (suc i)))) = omega arith

bytes_numbers : (slot pointer : ℕ) → Bytes (number_bytes slot pointer)
unfolding number_bytes digits
bytes_numbers slot pointer =
    bytes_append (digits slot 4) (digits pointer 4 ++ replicate 4 0) (bytes_digits slot 4)
    (bytes_append (digits pointer 4) (replicate 4 0) (bytes_digits pointer 4) (bytes_digits 0 4))

-- ---- what is stored over the whole place is what it holds

module _ (t : List ℕ) (p : ℕ) (s : List ℕ) (long : length s ≡ 16) (k : p < place_count t) where
  byte : (o : ℕ) → o < 16 → get_or (stored t (place_at p) s) (place_at p + o) 0 ≡ get_or s o 0
  byte o h = stored_inside t (place_at p) s o (omega arith) (omega arith)

  run : (o : ℕ) → o + 4 ≤ 16 → number (stored t (place_at p) s) (place_at p + o) 4 ≡ number s o 4
  run o h =
      number_same (stored t (place_at p) s) s (place_at p + o) o 4
      (λ i j. let e : place_at p + o + i ≡ place_at p + (o + i) = omega arith in rw e (byte (o + i) (omega arith)))

  pub whole_place : PlaceHolds (stored t (place_at p) s) p (used_of s 0) (access_of s 0) (slot_of s 0) (pointer_of s 0) (written_of s 0)
  unfolding used_of access_of slot_of pointer_of written_of
  whole_place =
      let e : place_at p + 0 ≡ place_at p = omega arith in
      record {
        used = ap (λ (b : ℕ). not (eqb b 0)) (rw e at (byte 0 (omega arith)));
        access = byte 1 (omega arith);
        slot = run 4 (omega arith);
        pointer = run 8 (omega arith);
        written = ap (λ (b : ℕ). not (eqb b 0)) (byte 2 (omega arith));
      }

-- ---- the four stores

module _ (t : List ℕ) (p : ℕ) (k : p < place_count t) where
  module _ (access slot pointer : ℕ) (written : Bool) where
    pub record_only : OnlyAt p (with_record t p access slot pointer written) t
    unfolding with_record
    record_only =
        only_place t (place_at p) 16 (record_bytes true access slot pointer written) (length_record access slot pointer written) p
        (omega arith) (omega arith) k

    pub record_holds : slot < 4294967296 → pointer < 4294967296 → PlaceHolds (with_record t p access slot pointer written) p true access slot pointer written
    unfolding with_record used_of access_of slot_of pointer_of written_of record_bytes mark_bytes number_bytes digits number
    record_holds h j =
        let w = whole_place t p (record_bytes true access slot pointer written) (length_record access slot pointer written) k in
        record {
          used = w.used;
          access = w.access;
          slot = w.slot ∙ omega arith;
          pointer = w.pointer ∙ omega arith;
          written = w.written ∙ mark_back written;
        }

    pub record_bytes_lem : Bytes t → access < 256 → Bytes (with_record t p access slot pointer written)
    unfolding with_record record_bytes mark_bytes number_bytes
    record_bytes_lem b h =
        bytes_stored t (place_at p) (record_bytes true access slot pointer written) b
        (bytes_append (mark_bytes access written) (number_bytes slot pointer) (bytes_marks access written h) (bytes_numbers slot pointer))

  module _ (v : ℕ) where
    pub pointer_only : OnlyAt p (with_pointer t p v) t
    unfolding with_pointer
    pointer_only = only_place t (place_at p + 8) 4 (digits v 4) (length_digits v 4) p (omega arith) (omega arith) k

    pub pointer_holds : v < 4294967296 → PlaceHolds (with_pointer t p v) p (used_of t p) (access_of t p) (slot_of t p) v (written_of t p)
    unfolding with_pointer pointer_of
    pointer_holds h =
        let u = untouched t (place_at p + 8) 4 (digits v 4) (length_digits v 4) p in
        record {
          used = u.used (inl (omega arith));
          access = u.access (inl (omega arith));
          slot = u.slot (inr (omega arith));
          pointer = number_stored t (place_at p + 8) v 4 (omega arith) (omega arith);
          written = u.written (inl (omega arith));
        }

    pub pointer_bytes : Bytes t → Bytes (with_pointer t p v)
    unfolding with_pointer
    pointer_bytes b = bytes_stored t (place_at p + 8) (digits v 4) b (bytes_digits v 4)

  pub written_only : OnlyAt p (with_written t p) t
  unfolding with_written
  written_only = only_place t (place_at p + 2) 1 (1 ∷ []) refl p (omega arith) (omega arith) k

  pub written_holds : PlaceHolds (with_written t p) p (used_of t p) (access_of t p) (slot_of t p) (pointer_of t p) true
  unfolding with_written written_of
  written_holds =
      let u = untouched t (place_at p + 2) 1 (1 ∷ []) refl p in
      record {
        used = u.used (inl (omega arith));
        access = u.access (inl (omega arith));
        slot = u.slot (inl (omega arith));
        pointer = u.pointer (inl (omega arith));
        written = ap (λ (b : ℕ). not (eqb b 0)) (byte_back t (place_at p + 2) 1 (omega arith));
      }

  pub written_bytes : Bytes t → Bytes (with_written t p)
  unfolding with_written
  written_bytes b = bytes_stored t (place_at p + 2) (1 ∷ []) b (bytes_one 1 (omega arith))

  pub cleared_only : OnlyAt p (cleared t p) t
  unfolding cleared
  cleared_only = only_place t (place_at p) 16 (replicate 16 0) refl p (omega arith) (omega arith) k

  pub cleared_holds : PlaceHolds (cleared t p) p false 0 0 0 false
  unfolding cleared used_of access_of slot_of pointer_of written_of number
  cleared_holds =
      let w = whole_place t p (replicate 16 0) refl k in
      record { used = w.used; access = w.access; slot = w.slot; pointer = w.pointer; written = w.written }

  pub cleared_bytes : Bytes t → Bytes (cleared t p)
  unfolding cleared digits
  cleared_bytes b = bytes_stored t (place_at p) (replicate 16 0) b (bytes_digits 0 16)

-- ---- the code's needs: stores side by side

zeros : digits 0 4 ≡ replicate 4 0
unfolding digits
zeros = refl

pub numbers_stored : (t t₁ t₂ t₃ : List ℕ) (p slot pointer : ℕ)
    → t₁ ≡ stored t (16 * p + 4) (digits slot 4) → t₂ ≡ with_pointer t₁ p pointer → t₃ ≡ stored t₂ (16 * p + 12) (digits 0 4)
    → t₃ ≡ stored t (place_at p + 4) (number_bytes slot pointer)
unfolding with_pointer number_bytes
numbers_stored t t₁ t₂ t₃ p slot pointer e f g =
    let y = and_then t₁ t₂ t₃ (place_at p + 8) (16 * p + 12) (digits pointer 4) (digits 0 4) f g (rw (length_digits pointer 4) (omega arith)) in
    and_then t t₁ t₃ (place_at p + 4) (place_at p + 8) (digits slot 4) (digits pointer 4 ++ replicate 4 0) e (rw zeros at y) (rw (length_digits slot 4) (omega arith))

pub record_stored : (t t₁ t₂ : List ℕ) (p access slot pointer : ℕ)
    → t₁ ≡ stored t (place_at p) (mark_bytes access false) → t₂ ≡ stored t₁ (place_at p + 4) (number_bytes slot pointer)
    → t₂ ≡ with_record t p access slot pointer false
unfolding with_record record_bytes mark_bytes number_bytes
record_stored t t₁ t₂ p access slot pointer e f = and_then t t₁ t₂ (place_at p) (place_at p + 4) (mark_bytes access false) (number_bytes slot pointer) e f refl
