-- "Read moves as many bytes as buffer and file allow; the rest of the buffer keeps its bytes. At or past the end: 0."
-- "A read or write that ends well moves the pointer by the count."
use Rattle.std.specs.Prelude.{ℕ, ◌+◌, ◌-◌, min, List, [], ◌∷◌, ◌≡◌, eqb, length}
use Rattle.image.specs.Store.{stored, part}
use Rattle.fields.specs.Fields.{size_of}
use Rattle.opened.specs.Records.{slot_of, access_of, pointer_of, with_pointer}
use Rattle.calls.specs.Outcome.{Row, Outcome, outcome, decided}
use Rattle.calls.specs.Numbers.{of_no_kind, unsound, invalid_handle, access_denied}
use Rattle.calls.specs.Refusals.{the_kind, not_of_kind, not_sound, not_live, address_of}
use Rattle.holding.specs.Holding.{file_bytes}
use Rattle.calls.specs.Answers.{Answer, number_told, value_told}

-- as many as buffer and file allow: room is the buffer's length
abbrev pub read_count : ℕ → ℕ → ℕ → ℕ
read_count room size pointer = min room (size - pointer)

abbrev pub read_rows : List ℕ → List ℕ → ℕ → List Row
read_rows img t h =
    (not_of_kind img, of_no_kind)
    ∷ (not_sound img, unsound)
    ∷ (not_live img t h, invalid_handle)
    ∷ (eqb (access_of t h) 1, access_denied)
    ∷ []

abbrev pub read_effect : List ℕ → List ℕ → ℕ → List ℕ → Outcome
read_effect img t h buf =
    let a = address_of img (slot_of t h) in
    let pointer = pointer_of t h in
    let n = read_count (length buf) (size_of img a) pointer in
    outcome 0 n img (with_pointer t h (pointer + n)) (stored buf 0 (part (file_bytes (the_kind img) img a) pointer n))

unfoldable pub read_outcome : List ℕ → List ℕ → ℕ → List ℕ → Outcome
read_outcome img t h buf = decided (read_rows img t h) (read_effect img t h buf) img t buf

-- what the call promises: its answer r, the table and the buffer after
pub record Reads (img t : List ℕ) (h : ℕ) (buf : List ℕ) (r : Answer) (table buffer : List ℕ) : Type 0 where
  pub is : outcome (number_told r) (value_told r) img table buffer ≡ read_outcome img t h buf
