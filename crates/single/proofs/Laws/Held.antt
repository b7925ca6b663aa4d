-- A call on a table of one record: what its code has found out where it ends.
use Rattle.std.specs.Prelude.{ℕ, Bool, true, false, refl, List, [], ◌∷◌, ◌≡◌, ℤ, length, set, replicate}
use Rattle.std.proofs.Common.{ap, ◌∙◌, SFits, to_z, of_z, to_z-of_z}
use Rattle.std.specs.Int.{w32, from_bool}
use Rattle.image.specs.Store.{stored}
use Rattle.image.specs.Numbers.{digits}
use Rattle.opened.specs.Records.{record_bytes, with_record}
use Rattle.chains.specs.Sums.{bit}
use Rattle.stamps.specs.declared.Stamp.{Stamp}
use Rattle.calls.specs.Outcome.{Outcome, outcome}
use Rattle.calls.specs.Answers.{Answer, number_told, value_told}
use Rattle.opening.specs.Open.{open_outcome, Opens}
use Rattle.seeking.specs.Seek.{seek_outcome, Seeks}
use Rattle.closing.specs.Close.{close_outcome, Closes}
use Rattle.reading.specs.Read.{read_outcome, Reads}
use Rattle.writing.specs.Write.{write_outcome, Writes}
use Rattle.records.specs.Row.{row_from, row_of, record_at}
use Rattle.records.specs.declared.OpenRecord.{OpenRecord}
use Rattle.single.specs.Rows.{place_bytes, bytes_of, LeavesRow}

-- ---- the table made

-- a used record's bytes, with the two marks as they are to be
mark : (b : Bool) → from_bool b ≡ bit b
mark true = refl
mark false = refl

pub table_made : (held : OpenRecord) (t : List ℕ) → t ≡ with_record (replicate 16 0) 0 held.access held.slot held.pointer false
    → (u : ℕ) → u ≡ from_bool held.used → (w : ℕ) → w ≡ from_bool held.written → set (set t 0 u) 2 w ≡ bytes_of (held ∷ [])
unfolding bytes_of place_bytes with_record stored record_bytes digits
table_made held t e u x w y = rw (e, x, y, mark held.used, mark held.written)

-- ---- the calls

-- 16 bytes are one record
one_record : (m : List ℕ) → length m ≡ 16 → record_at (row_of m) 0 ∷ [] ≡ row_of m
unfolding row_of row_from record_at
one_record m e = rw e

left : (o : Outcome) (a : Answer) (image m buffer : List ℕ) → outcome (number_told a) (value_told a) image m buffer ≡ o → length m ≡ 16
    → (r : OpenRecord) → r ≡ record_at (row_of m) 0 → LeavesRow o a image (r ∷ []) buffer
left o a image m buffer is e r x = record {
  number_is = ap (λ (y : Outcome). y.number) is;
  value_is = ap (λ (y : Outcome). y.value) is;
  image_is = ap (λ (y : Outcome). y.image) is;
  row_is = ap (λ (y : OpenRecord). y ∷ []) x ∙ one_record m e ∙ ap (λ (y : Outcome). row_of y.table) is;
  buffer_is = ap (λ (y : Outcome). y.buffer) is;
}

module _ (img t : List ℕ) (held : OpenRecord) (made : t ≡ bytes_of (held ∷ [])) (a : Answer) (m : List ℕ) (long : length m ≡ 16) (r : OpenRecord) (read : r ≡ record_at (row_of m) 0) where
  pub seek_held : (method : ℕ) (offset : ℤ) → SFits w32 offset → Seeks img t 0 method (to_z w32 (of_z w32 offset)) a m
      → LeavesRow (seek_outcome img (bytes_of (held ∷ [])) 0 method offset) a img (r ∷ []) []
  seek_held method offset fits s = left _ a img m [] (s.is ∙ rw (to_z-of_z {w = w32} fits, made)) long r read

  pub read_held : (buf buffer : List ℕ) → Reads img t 0 buf a m buffer → LeavesRow (read_outcome img (bytes_of (held ∷ [])) 0 buf) a img (r ∷ []) buffer
  read_held buf buffer s = left _ a img m buffer (s.is ∙ rw made) long r read

  pub write_held : (bytes image : List ℕ) → Writes img t 0 bytes a image m → LeavesRow (write_outcome img (bytes_of (held ∷ [])) 0 bytes) a image (r ∷ []) []
  write_held bytes image s = left _ a image m [] (s.is ∙ rw made) long r read

  pub close_held : (stamp : Stamp) (image : List ℕ) → Closes img t 0 stamp a image m → LeavesRow (close_outcome img (bytes_of (held ∷ [])) 0 stamp) a image (r ∷ []) []
  close_held stamp image s = left _ a image m [] (s.is ∙ rw made) long r read

  pub open_held : (s : List ℕ) (access : ℕ) → Opens img t s access a m → LeavesRow (open_outcome img (bytes_of (held ∷ [])) s access) a img (r ∷ []) []
  open_held s access w = left _ a img m [] (w.is ∙ rw made) long r read
