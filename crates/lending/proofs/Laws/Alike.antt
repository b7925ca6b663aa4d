-- What is promised over a row: only one outcome fits it, and the call over any bytes that say the row has that outcome.
use Rattle.std.specs.Prelude.{ℕ, cond, List, ◌≡◌, eqb, ℤ}
use Rattle.std.proofs.Common.{sym, ap, subst, ◌∙◌}
use Rattle.image.specs.Bytes.{Bytes}
use Rattle.stamps.specs.declared.Stamp.{Stamp}
use Rattle.calls.specs.Outcome.{Outcome}
use Rattle.calls.specs.Refusals.{place_found}
use Rattle.calls.specs.Answers.{Answer}
use Rattle.calls.proofs.Laws.Told.{told_only}
use Rattle.opening.specs.Open.{open_outcome}
use Rattle.seeking.specs.Seek.{seek_outcome}
use Rattle.closing.specs.Close.{close_outcome}
use Rattle.reading.specs.Read.{read_outcome}
use Rattle.writing.specs.Write.{write_outcome}
use Rattle.records.specs.Row.{row_of, record_at, with_record_at, lowest_unused_in}
use Rattle.records.proofs.Laws.Alike.{unused_alike}
use Rattle.records.specs.declared.OpenRecord.{OpenRecord}
use Rattle.single.specs.Rows.{bytes_of, LeavesRow}
use Rattle.lending.specs.Aids.Fits.{AllFit}
use Rattle.lending.proofs.Laws.Bytes.{says_fit, bytes_back}
use Rattle.lending.proofs.Laws.Same.{Same}
use Rattle.lending.proofs.Laws.SameCalls.{seek_same, read_same, write_same, close_same}
use Rattle.lending.proofs.Laws.OpenView.{number_by, opened, open_view}

-- ---- only one outcome fits

pub leaves_only : {o : Outcome} {a a' : Answer} {image image' : List ℕ} {row row' : List OpenRecord} {buffer buffer' : List ℕ}
    → LeavesRow o a image row buffer → LeavesRow o a' image' row' buffer' → (a ≡ a') × (image ≡ image') × (row ≡ row') × (buffer ≡ buffer')
leaves_only x y = (
  told_only (x.number_is ∙ sym y.number_is) (x.value_is ∙ sym y.value_is),
  x.image_is ∙ sym y.image_is,
  x.row_is ∙ sym y.row_is,
  x.buffer_is ∙ sym y.buffer_is,
)

-- ---- any bytes that say the row

module _ (t : List ℕ) (bytes : Bytes t) (row : List OpenRecord) (says : row_of t ≡ row) where
  back : row_of (bytes_of row) ≡ row_of t
  back = bytes_back row (subst AllFit says (says_fit t bytes)) ∙ sym says

  same_at : (h : ℕ) → record_at (row_of t) h ≡ record_at (row_of (bytes_of row)) h
  same_at h = ap (λ (l : List OpenRecord). record_at l h) (sym back)

  by_table : (h : ℕ) (o o' : Outcome) → Same t h (bytes_of row) h o o' → {a : Answer} {image : List ℕ} {after : List OpenRecord} {buffer : List ℕ} → LeavesRow o' a image after buffer → LeavesRow o a image after buffer
  by_table h o o' s left = record {
    number_is = left.number_is ∙ sym s.number;
    value_is = left.value_is ∙ sym s.value;
    image_is = left.image_is ∙ sym s.image;
    row_is = left.row_is ∙ s.here ∙ ap (λ (l : List OpenRecord). with_record_at l h s.after) back ∙ sym s.there;
    buffer_is = left.buffer_is ∙ sym s.buffer;
  }

  module _ (img : List ℕ) (h : ℕ) {a : Answer} {image : List ℕ} {after : List OpenRecord} {buffer : List ℕ} where
    pub seek_alike : (method : ℕ) (offset : ℤ) → LeavesRow (seek_outcome img (bytes_of row) h method offset) a image after buffer → LeavesRow (seek_outcome img t h method offset) a image after buffer
    seek_alike method offset = by_table h _ _ (seek_same t h (bytes_of row) h (same_at h) img method offset)

    pub read_alike : (buf : List ℕ) → LeavesRow (read_outcome img (bytes_of row) h buf) a image after buffer → LeavesRow (read_outcome img t h buf) a image after buffer
    read_alike buf = by_table h _ _ (read_same t h (bytes_of row) h (same_at h) img buf)

    pub write_alike : (bs : List ℕ) → LeavesRow (write_outcome img (bytes_of row) h bs) a image after buffer → LeavesRow (write_outcome img t h bs) a image after buffer
    write_alike bs = by_table h _ _ (write_same t h (bytes_of row) h (same_at h) img bs)

    pub close_alike : (stamp : Stamp) → LeavesRow (close_outcome img (bytes_of row) h stamp) a image after buffer → LeavesRow (close_outcome img t h stamp) a image after buffer
    close_alike stamp = by_table h _ _ (close_same t h (bytes_of row) h (same_at h) img stamp)

  pub open_alike : (img s : List ℕ) (access : ℕ) {a : Answer} {image : List ℕ} {after : List OpenRecord} {buffer : List ℕ} → LeavesRow (open_outcome img (bytes_of row) s access) a image after buffer → LeavesRow (open_outcome img t s access) a image after buffer
  open_alike img s access left =
      let f = lowest_unused_in row in
      let v = open_view img s access t f (sym (unused_alike t) ∙ ap lowest_unused_in says) in
      let w = open_view img s access (bytes_of row) f (sym (unused_alike (bytes_of row)) ∙ ap lowest_unused_in (back ∙ says)) in
      record {
        number_is = left.number_is ∙ w.number ∙ sym v.number;
        value_is = left.value_is ∙ w.value ∙ sym v.value;
        image_is = left.image_is ∙ w.image ∙ sym v.image;
        row_is = left.row_is ∙ w.row ∙ ap (λ (l : List OpenRecord). cond (eqb (number_by img s access f) 0) (with_record_at l (place_found f) (opened img s access)) l) back ∙ sym v.row;
        buffer_is = left.buffer_is ∙ w.buffer ∙ sym v.buffer;
      }
