-- From the call on one record to the call over the row that it was taken from.
use Rattle.std.specs.Prelude.{ℕ, zero, suc, List, [], ◌∷◌, ◌≡◌, refl, ℤ, get_or}
use Rattle.std.proofs.Common.{arith, sym, ap, ◌∙◌}
use Rattle.stamps.specs.declared.Stamp.{Stamp}
use Rattle.calls.specs.Outcome.{Outcome}
use Rattle.calls.specs.Answers.{Answer}
use Rattle.seeking.specs.Seek.{seek_outcome}
use Rattle.closing.specs.Close.{close_outcome}
use Rattle.reading.specs.Read.{read_outcome}
use Rattle.writing.specs.Write.{write_outcome}
use Rattle.records.specs.Row.{unused, row_of, record_at, with_record_at}
use Rattle.records.specs.declared.OpenRecord.{OpenRecord}
use Rattle.single.specs.Rows.{bytes_of, LeavesRow}
use Rattle.lending.specs.Aids.Fits.{FitsIn, AllFit}
use Rattle.lending.proofs.Laws.Bytes.{fits_at, bytes_back}
use Rattle.lending.proofs.Laws.Same.{Same}
use Rattle.lending.proofs.Laws.SameCalls.{seek_same, read_same, write_same, close_same}

-- ---- one record, and the row it was taken from

first : (r : OpenRecord) → r ≡ record_at (r ∷ []) 0
unfolding record_at
first r = refl

pub stored_first : (r r' : OpenRecord) → with_record_at (r ∷ []) 0 r' ≡ r' ∷ []
unfolding with_record_at
stored_first r r' = refl

one_fits : (r : OpenRecord) → FitsIn r → AllFit (r ∷ [])
one_fits r fits zero l = fits
one_fits r fits (suc i) l = absurd (omega arith)

pub one_back : (r : OpenRecord) → FitsIn r → row_of (bytes_of (r ∷ [])) ≡ r ∷ []
one_back r fits = bytes_back (r ∷ []) (one_fits r fits)

module _ (row : List OpenRecord) (fits : AllFit row) (h : ℕ) where
  abbrev alone : List ℕ
  alone = bytes_of (record_at row h ∷ [])

  taken_out : record_at (row_of (bytes_of row)) h ≡ record_at (row_of alone) 0
  taken_out = ap (λ (l : List OpenRecord). record_at l h) (bytes_back row fits) ∙ first (record_at row h) ∙ sym (ap (λ (l : List OpenRecord). record_at l 0) (one_back (record_at row h) (fits_at row fits h)))

  module _ (o o' : Outcome) (s : Same (bytes_of row) h alone 0 o o') (a : Answer) (image buffer : List ℕ) (r : OpenRecord) (left : LeavesRow o' a image (r ∷ []) buffer) (after : List OpenRecord) (put : after ≡ with_record_at row h r) where
    same_record : r ≡ s.after
    same_record =
        ap (λ (l : List OpenRecord). get_or l 0 unused)
        (left.row_is ∙ s.here ∙ ap (λ (l : List OpenRecord). with_record_at l 0 s.after) (one_back (record_at row h) (fits_at row fits h)) ∙ stored_first (record_at row h) s.after)

    put_back : LeavesRow o a image after buffer
    put_back = record {
      number_is = left.number_is ∙ sym s.number;
      value_is = left.value_is ∙ sym s.value;
      image_is = left.image_is ∙ sym s.image;
      row_is = put ∙ ap (with_record_at row h) same_record ∙ sym (s.there ∙ ap (λ (l : List OpenRecord). with_record_at l h s.after) (bytes_back row fits));
      buffer_is = left.buffer_is ∙ sym s.buffer;
    }

-- ---- the calls over the row

module _ (row : List OpenRecord) (fits : AllFit row) (h : ℕ) (img : List ℕ) (a : Answer) (r : OpenRecord) (after : List OpenRecord) (put : after ≡ with_record_at row h r) where
  pub seek_through : (method : ℕ) (offset : ℤ) → LeavesRow (seek_outcome img (bytes_of (record_at row h ∷ [])) 0 method offset) a img (r ∷ []) [] → LeavesRow (seek_outcome img (bytes_of row) h method offset) a img after []
  seek_through method offset left = put_back row fits h _ _ (seek_same (bytes_of row) h (alone row fits h) 0 (taken_out row fits h) img method offset) a img [] r left after put

  pub read_through : (buf buffer : List ℕ) → LeavesRow (read_outcome img (bytes_of (record_at row h ∷ [])) 0 buf) a img (r ∷ []) buffer → LeavesRow (read_outcome img (bytes_of row) h buf) a img after buffer
  read_through buf buffer left = put_back row fits h _ _ (read_same (bytes_of row) h (alone row fits h) 0 (taken_out row fits h) img buf) a img buffer r left after put

  pub write_through : (bytes image : List ℕ) → LeavesRow (write_outcome img (bytes_of (record_at row h ∷ [])) 0 bytes) a image (r ∷ []) [] → LeavesRow (write_outcome img (bytes_of row) h bytes) a image after []
  write_through bytes image left = put_back row fits h _ _ (write_same (bytes_of row) h (alone row fits h) 0 (taken_out row fits h) img bytes) a image [] r left after put

  pub close_through : (stamp : Stamp) (image : List ℕ) → LeavesRow (close_outcome img (bytes_of (record_at row h ∷ [])) 0 stamp) a image (r ∷ []) [] → LeavesRow (close_outcome img (bytes_of row) h stamp) a image after []
  close_through stamp image left = put_back row fits h _ _ (close_same (bytes_of row) h (alone row fits h) 0 (taken_out row fits h) img stamp) a image [] r left after put
