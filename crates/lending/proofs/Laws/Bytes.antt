-- The bytes that a row says, read as a row again.
use Rattle.std.specs.Prelude.{ℕ, suc, ◌+◌, ◌*◌, ◌/◌, ◌≤◌, ◌<◌, Bool, true, false, cond, List, [], ◌∷◌, ◌++◌, ◌≡◌, refl, eqb, ltb, length, get_or}
use native.Mathlib.Omega.{arith}
use Rattle.std.proofs.Math.Bool.{not}
use Rattle.std.proofs.Common.{subst, append_assoc, ◌∙◌, ltb-true, length-append, get_or-append-add}
use Rattle.std.proofs.Math.Path.{ap}
use Rattle.std.proofs.Math.ListN.{get_or-append}
use Rattle.image.specs.Bytes.{Bytes}
use Rattle.image.specs.Numbers.{number, digits}
use Rattle.image.proofs.Laws.Numbers.{number_same}
use Rattle.opened.specs.Records.{place_at, used_of, slot_of, access_of, pointer_of, written_of, record_bytes}
use Rattle.chains.specs.Sums.{bit}
use Rattle.opened.proofs.Laws.Records.{slot_small, pointer_small}
use Rattle.records.specs.Row.{unused, record_at, record_of, row_from, row_of}
use Rattle.records.proofs.Laws.Alike.{row_length, row_reads, record_of_lem}
use Rattle.records.specs.declared.OpenRecord.{OpenRecord}
use Rattle.single.specs.Rows.{place_bytes, bytes_of}
use Rattle.lending.specs.Aids.Fits.{FitsIn, AllFit}

pub fits_at : (row : List OpenRecord) → AllFit row → (p : ℕ) → FitsIn (record_at row p)
unfolding record_at
fits_at row fits p = by_tests (ltb p 16) (ltb p (length row)) refl
  where
    none : FitsIn unused
    none = record { slot = omega arith; pointer = omega arith }

    by_tests : (a b : Bool) → ltb p (length row) ≡ b → FitsIn (cond a (cond b (get_or row p unused) unused) unused)
    by_tests true true e = fits p (ltb-true p (length row) e)
    by_tests true false e = none
    by_tests false b e = none

-- bytes say records that fit
pub says_fit : (t : List ℕ) → Bytes t → AllFit (row_of t)
unfolding record_of
says_fit t b i h = let e = row_length t in rw (row_reads t i (omega arith)) record { slot = slot_small t i b; pointer = pointer_small t i b }

length_place : (r : OpenRecord) → length (place_bytes r) ≡ 16
unfolding place_bytes record_bytes digits
length_place r = refl

mark_back : (b : Bool) → not (eqb (bit b) 0) ≡ b
mark_back true = refl
mark_back false = refl

-- a record after the bytes of p places
module _ (before : List ℕ) (p : ℕ) (long : length before ≡ 16 * p) (r : OpenRecord) (after : List ℕ) (fits : FitsIn r) where
  abbrev t : List ℕ
  t = before ++ (place_bytes r ++ after)

  byte : (i : ℕ) → i < 16 → get_or t (place_at p + i) 0 ≡ get_or (place_bytes r) i 0
  byte i h =
      let e : place_at p + i ≡ length before + i = omega arith in
      let l = length_place r in
      ap (λ (n : ℕ). get_or t n 0) e ∙ get_or-append-add before (place_bytes r ++ after) i 0 ∙ get_or-append (place_bytes r) after 0 i (omega arith)

  run : (o : ℕ) → o + 4 ≤ 16 → number t (place_at p + o) 4 ≡ number (place_bytes r) o 4
  run o h =
      number_same t (place_bytes r) (place_at p + o) o 4
      (λ i j. let e : place_at p + o + i ≡ place_at p + (o + i) = omega arith in rw e (byte (o + i) (omega arith)))

  pub place_reads : record_of t p ≡ r
  unfolding record_of used_of access_of slot_of pointer_of written_of place_bytes record_bytes digits number
  place_reads =
      let e : place_at p + 0 ≡ place_at p = omega arith in
      record_of_lem t p r
      record {
        used = ap (λ (b : ℕ). not (eqb b 0)) (rw e at (byte 0 (omega arith))) ∙ mark_back r.used;
        access = byte 1 (omega arith);
        slot = run 4 (omega arith) ∙ omega (arith, fits.slot);
        pointer = run 8 (omega arith) ∙ omega (arith, fits.pointer);
        written = ap (λ (b : ℕ). not (eqb b 0)) (byte 2 (omega arith)) ∙ mark_back r.written;
      }

-- a row after the bytes of p places
reads_from : (before : List ℕ) (p : ℕ) → length before ≡ 16 * p → (row : List OpenRecord) → AllFit row → row_from (before ++ bytes_of row) p (length row) ≡ row
unfolding row_from bytes_of
reads_from before p long [] fits = refl
reads_from before p long (r ∷ row) fits =
    let a = place_reads before p long r (bytes_of row) (fits 0 (omega arith)) in
    let l = length_place r in
    let k = length-append before (place_bytes r) in
    let e : length (before ++ place_bytes r) ≡ 16 * (p + 1) = omega arith in
    let b = reads_from (before ++ place_bytes r) (p + 1) e row (λ i h. fits (suc i) (omega arith)) in
    let b' = subst (λ l. row_from l (p + 1) (length row) ≡ row) (append_assoc before (place_bytes r) (bytes_of row)) b in
    rw (a, b')

length_bytes : (row : List OpenRecord) → length (bytes_of row) ≡ 16 * length row
unfolding bytes_of
length_bytes [] = refl
length_bytes (r ∷ row) = let l = length_place r in let k = length-append (place_bytes r) (bytes_of row) in let b = length_bytes row in omega arith

pub bytes_back : (row : List OpenRecord) → AllFit row → row_of (bytes_of row) ≡ row
unfolding row_of
bytes_back row fits =
    let l = length_bytes row in
    let e : length (bytes_of row) / 16 ≡ length row = omega arith in
    ap (row_from (bytes_of row) 0) e ∙ reads_from [] 0 refl row fits
