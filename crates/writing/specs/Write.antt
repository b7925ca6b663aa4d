-- "Write has room for (own clusters + free) times cluster bytes. It writes the smaller of the length and room less pointer; 0
-- when the pointer is at or past the room. If 0, nothing changes. Else bytes between the old size and the pointer become zero,
-- size becomes the larger of old size and pointer plus count, and each new cluster is the lowest free. Bytes past the size
-- stay. Size and start are stored at once (group's rule)."
-- "A read or write that ends well moves the pointer by the count."
use Rattle.std.specs.Prelude.{ℕ, ◌+◌, ◌-◌, ◌*◌, min, cond, List, [], ◌∷◌, ◌≡◌, eqb, length, take}
use Rattle.diskette.specs.declared.Kind.{Kind}
use Rattle.diskette.specs.Places.{cluster_bytes}
use Rattle.sound.specs.Counts.{free_of}
use Rattle.opened.specs.Records.{slot_of, access_of, pointer_of, with_pointer, with_written}
use Rattle.calls.specs.Outcome.{Row, Outcome, outcome, decided}
use Rattle.calls.specs.Numbers.{of_no_kind, unsound, invalid_handle, access_denied}
use Rattle.calls.specs.Refusals.{the_kind, not_of_kind, not_sound, not_live, address_of}
use Rattle.calls.specs.Answers.{Answer, number_told, value_told}
use Rattle.holding.specs.Holding.{file_chain}
use Rattle.putting.specs.Written.{written_in}

-- "Write has room for (own clusters + free) times cluster bytes"; "own clusters in its room means all of them". The file's entry
-- starts at byte a.
unfoldable pub room_of : Kind → List ℕ → ℕ → ℕ
room_of k img a = (length (file_chain k img a) + free_of k img) * cluster_bytes k

-- "the smaller of the length and room less pointer; 0 when the pointer is at or past the room": so many of n bytes are written
abbrev pub write_count : Kind → List ℕ → ℕ → ℕ → ℕ → ℕ
write_count k img a pointer n = min n (room_of k img a - pointer)

abbrev pub write_rows : List ℕ → List ℕ → ℕ → List Row
write_rows img t h =
    (not_of_kind img, of_no_kind)
    ∷ (not_sound img, unsound)
    ∷ (not_live img t h, invalid_handle)
    ∷ (eqb (access_of t h) 0, access_denied)
    ∷ []

-- "If 0, nothing changes"
unfoldable pub write_effect : List ℕ → List ℕ → ℕ → List ℕ → Outcome
write_effect img t h bs =
    let k = the_kind img in
    let a = address_of img (slot_of t h) in
    let pointer = pointer_of t h in
    let n = write_count k img a pointer (length bs) in
    cond (eqb n 0) (outcome 0 0 img t [])
    (outcome 0 n (written_in k img a pointer (take n bs)) (with_written (with_pointer t h (pointer + n)) h) [])

unfoldable pub write_outcome : List ℕ → List ℕ → ℕ → List ℕ → Outcome
write_outcome img t h bs = decided (write_rows img t h) (write_effect img t h bs) img t []

-- what the call promises: its answer r, the image and the table after
pub record Writes (img t : List ℕ) (h : ℕ) (bs : List ℕ) (r : Answer) (after table : List ℕ) : Type 0 where
  pub is : outcome (number_told r) (value_told r) after table [] ≡ write_outcome img t h bs
