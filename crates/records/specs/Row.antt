-- The open table is a row of records that the caller lends; only the first 16 are used.
use Rattle.std.specs.Prelude.{ℕ, zero, suc, ◌+◌, ◌/◌, min, Bool, false, cond, not, ◌&&◌, List, [], ◌∷◌, eqb, ltb, length, get_or, set, Option}
use Rattle.search.specs.Search.{lowest, is_found}
use Rattle.opened.specs.Records.{place_count, with_record, with_written, cleared, used_of, slot_of, access_of, pointer_of, written_of}
use Rattle.records.specs.declared.OpenRecord.{OpenRecord}

-- what an unused place holds: all fields zero
abbrev pub unused : OpenRecord
unused = record { used = false; slot = 0; access = 0; pointer = 0; written = false }

-- the record that the bytes of place p say
unfoldable pub record_of : List ℕ → ℕ → OpenRecord
record_of t p = record { used = used_of t p; slot = slot_of t p; access = access_of t p; pointer = pointer_of t p; written = written_of t p }

-- a table with a used record stored at place p; an unused one frees the place
unfoldable pub taken_bytes : List ℕ → ℕ → OpenRecord → List ℕ
taken_bytes t p r = let m = with_record t p r.access r.slot r.pointer false in cond r.written (with_written m p) m

unfoldable pub in_bytes : List ℕ → ℕ → OpenRecord → List ℕ
in_bytes t p r = cond (ltb p (place_count t)) (cond r.used (taken_bytes t p r) (cleared t p)) t

-- the n records from place p on
unfoldable pub row_from : List ℕ → ℕ → ℕ → List OpenRecord
row_from t p zero = []
row_from t p (suc n) = record_of t p ∷ row_from t (p + 1) n

-- the row that a table's bytes say; a last piece of less than 16 bytes is no record
unfoldable pub row_of : List ℕ → List OpenRecord
row_of t = row_from t 0 (length t / 16)

-- only the first 16 are used
abbrev pub row_count : List OpenRecord → ℕ
row_count row = min 16 (length row)

-- the record at place p, an unused one where the row has no such place
unfoldable pub record_at : List OpenRecord → ℕ → OpenRecord
record_at row p = cond (ltb p 16) (cond (ltb p (length row)) (get_or row p unused) unused) unused

-- the row with r at place p; as it was where it has no such place
unfoldable pub with_record_at : List OpenRecord → ℕ → OpenRecord → List OpenRecord
with_record_at row p r = cond (ltb p 16) (cond (ltb p (length row)) (set row p r) row) row

-- ---- the lowest unused place

abbrev pub unused_in : List OpenRecord → ℕ → Bool
unused_in row p = not (get_or row p unused).used

unfoldable pub lowest_unused_in : List OpenRecord → Option ℕ
lowest_unused_in row = lowest (unused_in row) 0 (row_count row)

-- ---- A file is open when a used place names its slot.

abbrev pub names_in : List OpenRecord → ℕ → ℕ → Bool
names_in row slot p = (get_or row p unused).used && eqb (get_or row p unused).slot slot

unfoldable pub is_open_in : List OpenRecord → ℕ → Bool
is_open_in row slot = is_found (lowest (names_in row slot) 0 (row_count row))
