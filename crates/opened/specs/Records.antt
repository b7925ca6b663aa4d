-- The open table is a row of records that the caller lends, here of 16 bytes each, one after the other; numbers low byte first.
-- Where a field stands is said in this file alone: used 0, access 1, written 2, slot 4-7, pointer 8-11; 3 and 12-15 are zero.
use Rattle.std.specs.Prelude.{ℕ, ◌+◌, ◌*◌, ◌/◌, min, Bool, true, not, List, [], ◌∷◌, ◌++◌, eqb, length, get_or, replicate}
use Rattle.image.specs.Store.{stored}
use Rattle.image.specs.Numbers.{number, digits}
use Rattle.chains.specs.Sums.{bit}

-- only the first 16 are used; a last piece of less than 16 bytes is no record
abbrev pub place_count : List ℕ → ℕ
place_count t = min 16 (length t / 16)

-- the byte at which place p begins
abbrev pub place_at : ℕ → ℕ
place_at p = 16 * p

-- ---- A record holds:

-- used or not
unfoldable pub used_of : List ℕ → ℕ → Bool
used_of t p = not (eqb (get_or t (place_at p) 0) 0)

-- slot
unfoldable pub slot_of : List ℕ → ℕ → ℕ
slot_of t p = number t (place_at p + 4) 4

-- access 0 read, 1 write, 2 both
unfoldable pub access_of : List ℕ → ℕ → ℕ
access_of t p = get_or t (place_at p + 1) 0

-- pointer
unfoldable pub pointer_of : List ℕ → ℕ → ℕ
pointer_of t p = number t (place_at p + 8) 4

-- written or not
unfoldable pub written_of : List ℕ → ℕ → Bool
written_of t p = not (eqb (get_or t (place_at p + 2) 0) 0)

-- ---- a record stored

-- the bytes of a record
unfoldable pub record_bytes : Bool → ℕ → ℕ → ℕ → Bool → List ℕ
record_bytes used access slot pointer written =
    bit used ∷ access ∷ bit written ∷ 0 ∷ (digits slot 4 ++ (digits pointer 4 ++ replicate 4 0))

-- t with place p taken: all its bytes are stored
unfoldable pub with_record : List ℕ → ℕ → ℕ → ℕ → ℕ → Bool → List ℕ
with_record t p access slot pointer written = stored t (place_at p) (record_bytes true access slot pointer written)

-- t with the pointer of place p moved to v
unfoldable pub with_pointer : List ℕ → ℕ → ℕ → List ℕ
with_pointer t p v = stored t (place_at p + 8) (digits v 4)

-- t with place p marked as written
unfoldable pub with_written : List ℕ → ℕ → List ℕ
with_written t p = stored t (place_at p + 2) (bit true ∷ [])

-- frees the place (all fields zero)
unfoldable pub cleared : List ℕ → ℕ → List ℕ
cleared t p = stored t (place_at p) (replicate 16 0)
