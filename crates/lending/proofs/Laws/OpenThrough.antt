-- From open on one place to open over the row.
use Rattle.std.specs.Prelude.{ℕ, true, false, List, [], ◌∷◌, ◌≡◌, refl, eqb, get_or, Option, Some, None, Result, Ok, Err, ◌<◌}
use Rattle.std.proofs.Common.{arith, sym, ap, ◌∙◌}
use Rattle.search.specs.Search.{lowest}
use Rattle.opened.specs.Places.{lowest_unused}
use Rattle.calls.specs.Refusals.{place_found}
use Rattle.calls.specs.Answers.{Answer, number_told}
use Rattle.calls.specs.Numbers.{refusal_number}
use Rattle.calls.specs.declared.refusal.Refusal.{Refusal}
use Rattle.calls.specs.declared.refusal.Refusal.TheVariants.{InvalidFunction, FileNotFound, TooManyOpen, AccessDenied, InvalidHandle, InvalidAccess, NoMoreFiles, OfNoKind, Unsound, BreaksRules, OutOfRange}
use Rattle.opening.specs.Open.{open_outcome}
use Rattle.records.specs.Row.{unused, with_record_at, lowest_unused_in}
use Rattle.records.proofs.Laws.Alike.{unused_alike}
use Rattle.records.specs.declared.OpenRecord.{OpenRecord}
use Rattle.single.specs.Rows.{bytes_of, LeavesRow}
use Rattle.single.specs.Aids.OpenAt.{spare_for, OpensAt}
use Rattle.lending.specs.Aids.Fits.{FitsIn, AllFit}
use Rattle.lending.proofs.Laws.Bytes.{bytes_back}
use Rattle.lending.proofs.Laws.Through.{one_back, stored_first}
use Rattle.lending.proofs.Laws.OpenView.{free_alike, free_fits, number_by, opened, OpenView, open_view}

abbrev spare_found : Option ℕ → Option ℕ
spare_found (Some p) = Some 0
spare_found None = None

spare_fits : (f : Option ℕ) → FitsIn (spare_for f)
unfolding spare_for
spare_fits (Some p) = record { slot = omega arith; pointer = omega arith }
spare_fits None = record { slot = omega arith; pointer = omega arith }

spare_lowest : (f : Option ℕ) → lowest_unused_in (spare_for f ∷ []) ≡ spare_found f
unfolding lowest_unused_in lowest spare_for
spare_lowest (Some p) = refl
spare_lowest None = refl

spare_found_lem : (f : Option ℕ) → lowest_unused (bytes_of (spare_for f ∷ [])) ≡ spare_found f
spare_found_lem f = sym (unused_alike (bytes_of (spare_for f ∷ []))) ∙ ap lowest_unused_in (one_back (spare_for f) (spare_fits f)) ∙ spare_lowest f

spare_place : (f : Option ℕ) → place_found (spare_found f) ≡ 0
spare_place (Some p) = refl
spare_place None = refl

-- a refusal has a number
some : (e : Refusal) → eqb (refusal_number e) 0 ≡ false
some InvalidFunction = refl
some FileNotFound = refl
some TooManyOpen = refl
some AccessDenied = refl
some InvalidHandle = refl
some InvalidAccess = refl
some NoMoreFiles = refl
some OfNoKind = refl
some Unsound = refl
some BreaksRules = refl
some OutOfRange = refl

module _ (img s : List ℕ) (access : ℕ) where
  spare_number : (f : Option ℕ) → number_by img s access (spare_found f) ≡ number_by img s access f
  spare_number (Some p) = refl
  spare_number None = refl

  module _ (row : List OpenRecord) (fits : AllFit row) (f : Option ℕ) (lowest_is : f ≡ lowest_unused_in row) (r : Result (ℕ × OpenRecord) Refusal) (opens : OpensAt img f s access r) where
    whole : OpenView img s access (bytes_of row) f (open_outcome img (bytes_of row) s access)
    whole = open_view img s access (bytes_of row) f (free_alike row fits ∙ sym lowest_is)

    one : OpenView img s access (bytes_of (spare_for f ∷ [])) (spare_found f) (open_outcome img (bytes_of (spare_for f ∷ [])) s access)
    one = open_view img s access (bytes_of (spare_for f ∷ [])) (spare_found f) (spare_found_lem f)

    number : number_by img s access f ≡ number_told r
    number = sym (opens.number_is ∙ one.number ∙ spare_number f)

    pub open_refused : (e : Refusal) → r ≡ Err e → (a : Answer) → a ≡ Err e → LeavesRow (open_outcome img (bytes_of row) s access) a img row []
    open_refused e q a x =
        let n : number_by img s access f ≡ refusal_number e = number ∙ ap number_told q in
        let z : eqb (number_by img s access f) 0 ≡ false = rw n (some e) in
        record {
          number_is = rw x (sym (whole.number ∙ n));
          value_is = rw x (sym (whole.value ∙ rw z));
          image_is = sym whole.image;
          row_is = sym (whole.row ∙ rw (z, bytes_back row fits));
          buffer_is = sym whole.buffer;
        }

    module _ (place : ℕ) (held : OpenRecord) (q : r ≡ Ok (place, held)) where
      pub place_fits : place < 4294967296
      place_fits = rw (opens.opened_is place held q).0 (free_fits row fits f lowest_is)

      pub open_well : (after : List OpenRecord) → after ≡ with_record_at row place held → (a : Answer) → a ≡ Ok place → LeavesRow (open_outcome img (bytes_of row) s access) a img after []
      open_well after put a x =
          let n : number_by img s access f ≡ 0 = number ∙ ap number_told q in
          let z : eqb (number_by img s access f) 0 ≡ true = rw n in
          let o = opens.opened_is place held q in
          let h : held ∷ [] ≡ opened img s access ∷ [] = o.1 ∙ one.row ∙ rw (spare_number f, spare_place f, z, one_back (spare_for f) (spare_fits f), stored_first (spare_for f) (opened img s access)) in
          let same : held ≡ opened img s access = ap (λ (l : List OpenRecord). get_or l 0 unused) h in
          record {
            number_is = rw x (sym (whole.number ∙ n));
            value_is = rw x (o.0 ∙ sym (whole.value ∙ rw z));
            image_is = sym whole.image;
            row_is = rw (put, o.0, same) (sym (whole.row ∙ rw (z, bytes_back row fits)));
            buffer_is = sym whole.buffer;
          }
