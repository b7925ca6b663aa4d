-- The calls over a row of open records: each answers what the call over bytes answers on the bytes that the row says, and leaves
-- the row that the table then says.
use Rattle.std.specs.Prelude.{ℕ, List, [], ◌∷◌, ◌++◌, ◌≡◌}
use Rattle.opened.specs.Records.{record_bytes}
use Rattle.calls.specs.Outcome.{Outcome}
use Rattle.calls.specs.Answers.{Answer, number_told, value_told}
use Rattle.records.specs.Row.{row_of}
use Rattle.records.specs.declared.OpenRecord.{OpenRecord}

-- the bytes of a record, used or not, so that row_of reads it again
unfoldable pub place_bytes : OpenRecord → List ℕ
place_bytes r = record_bytes r.used r.access r.slot r.pointer r.written

-- the bytes that a row says
unfoldable pub bytes_of : List OpenRecord → List ℕ
bytes_of [] = []
bytes_of (r ∷ row) = place_bytes r ++ bytes_of row

-- what a call over a row promises, by the outcome o of the call over bytes: its answer r, image, row and buffer after
pub record LeavesRow (o : Outcome) (r : Answer) (image : List ℕ) (row : List OpenRecord) (buffer : List ℕ) : Type 0 where
  pub number_is : (number_told r) ≡ o.number
  pub value_is : (value_told r) ≡ o.value
  pub image_is : image ≡ o.image
  pub row_is : row ≡ row_of o.table
  pub buffer_is : buffer ≡ o.buffer
