-- Open over bytes, by the place that is free.
use Rattle.std.specs.Prelude.{ℕ, ◌<◌, Bool, true, false, cond, not, ◌&&◌, List, [], ◌∷◌, ◌≡◌, refl, eqb, ltb, Option, Some, None, Ok}
use Rattle.std.proofs.Common.{arith, sym, ap, ◌∙◌, eqb-true}
use Rattle.search.specs.Search.{is_found}
use Rattle.opened.specs.Records.{place_count, record_bytes, with_record}
use Rattle.opened.specs.Places.{lowest_unused}
use Rattle.opened.proofs.Laws.Stores.{length_record, whole_place, record_only}
use Rattle.calls.specs.Outcome.{Row, Outcome, outcome, refusal, decided}
use Rattle.calls.specs.Numbers.{of_no_kind, unsound, invalid_access, breaks_rules, file_not_found, access_denied, too_many_open}
use Rattle.calls.specs.Refusals.{place_found, not_of_kind, not_sound, bad_name, no_file, file_slot, read_only}
use Rattle.calls.proofs.Laws.Files.{unused_below, unused_fits}
use Rattle.opening.specs.Open.{open_outcome}
use Rattle.records.specs.Row.{record_of, row_of, with_record_at, lowest_unused_in}
use Rattle.records.proofs.Laws.Alike.{record_of_lem, unused_alike}
use Rattle.records.proofs.Laws.Stores.{row_set}
use Rattle.records.specs.declared.OpenRecord.{OpenRecord}
use Rattle.single.specs.Rows.{bytes_of}
use Rattle.lending.specs.Aids.Fits.{AllFit}
use Rattle.lending.proofs.Laws.Bytes.{bytes_back}

-- ---- a place taken holds what the record's own bytes say, whether or not its numbers fit

module _ (t : List ℕ) (p : ℕ) (k : p < place_count t) (access slot pointer : ℕ) (written : Bool) where
  abbrev bytes : List ℕ
  bytes = record_bytes true access slot pointer written

  taken_back : record_of (with_record t p access slot pointer written) p ≡ record_of bytes 0
  unfolding with_record record_of
  taken_back =
      record_of_lem (with_record t p access slot pointer written) p (record_of bytes 0)
      (whole_place t p bytes (length_record access slot pointer written) k)

  row_taken : row_of (with_record t p access slot pointer written) ≡ with_record_at (row_of t) p (record_of bytes 0)
  row_taken = row_set (with_record t p access slot pointer written) t p k (record_only t p k access slot pointer written) (record_of bytes 0) taken_back

-- ---- the place that is free, in a row and in its bytes

pub free_alike : (row : List OpenRecord) → AllFit row → lowest_unused (bytes_of row) ≡ lowest_unused_in row
free_alike row fits = sym (unused_alike (bytes_of row)) ∙ ap lowest_unused_in (bytes_back row fits)

pub free_fits : (row : List OpenRecord) → AllFit row → (f : Option ℕ) → f ≡ lowest_unused_in row → place_found f < 4294967296
free_fits row fits (Some p) e = unused_fits (bytes_of row) (Some p) (e ∙ sym (free_alike row fits)) (Ok p) refl p refl
free_fits row fits None e = omega arith

-- ---- open by the place that is free

-- a row before a refusal leaves one
still_refused : (a : Bool) (n : ℕ) (rs : List Row) → 0 < n → 0 < refusal rs → 0 < refusal ((a, n) ∷ rs)
unfolding refusal
still_refused true n rs h j = h
still_refused false n rs h j = j

no_place_lem : 0 < refusal ((true, too_many_open) ∷ [])
unfolding refusal
no_place_lem = omega arith

module _ (img s : List ℕ) (access : ℕ) where
  abbrev rows_by : Bool → List Row
  rows_by z =
      (not_of_kind img, of_no_kind)
      ∷ (not_sound img, unsound)
      ∷ (ltb 2 access, invalid_access)
      ∷ (bad_name s, breaks_rules)
      ∷ (no_file img s, file_not_found)
      ∷ (ltb 0 access && read_only img (file_slot img s), access_denied)
      ∷ (z, too_many_open)
      ∷ []

  -- the number that it answers
  abbrev pub number_by : Option ℕ → ℕ
  number_by f = refusal (rows_by (not (is_found f)))

  none_refused : 0 < number_by None
  none_refused =
      still_refused _ of_no_kind _ (omega arith)
      (still_refused _ unsound _ (omega arith)
      (still_refused _ invalid_access _ (omega arith)
      (still_refused _ breaks_rules _ (omega arith)
      (still_refused _ file_not_found _ (omega arith)
      (still_refused _ access_denied _ (omega arith) no_place_lem)))))

  -- the record that it makes
  abbrev pub opened : OpenRecord
  opened = record_of (record_bytes true access (file_slot img s) 0 false) 0

  pub record OpenView (t : List ℕ) (f : Option ℕ) (o : Outcome) : Type 0 where
    pub number : o.number ≡ number_by f
    pub value : o.value ≡ cond (eqb (number_by f) 0) (place_found f) 0
    pub image : o.image ≡ img
    pub buffer : o.buffer ≡ []
    pub row : row_of o.table ≡ cond (eqb (number_by f) 0) (with_record_at (row_of t) (place_found f) opened) (row_of t)

  counted : (t : List ℕ) (f : Option ℕ) → lowest_unused t ≡ f → number_by f ≡ 0 → place_found f < place_count t
  counted t (Some p) e z = unused_below t (Some p) (sym e) (Ok p) refl p refl
  counted t None e z = absurd (omega (arith, none_refused))

  by_test : (t : List ℕ) (f : Option ℕ) → lowest_unused t ≡ f → (z : Bool) → eqb (number_by f) 0 ≡ z
      → OpenView t f (cond z (outcome 0 (place_found f) img (with_record t (place_found f) access (file_slot img s) 0 false) []) (outcome (number_by f) 0 img t []))
  by_test t f e true z =
      let n = eqb-true (number_by f) 0 z in
      record { number = sym n; value = rw z; image = refl; buffer = refl; row = rw z (row_taken t (place_found f) (counted t f e n) access (file_slot img s) 0 false) }
  by_test t f e false z = record { number = refl; value = rw z; image = refl; buffer = refl; row = rw z }

  pub open_view : (t : List ℕ) (f : Option ℕ) → lowest_unused t ≡ f → OpenView t f (open_outcome img t s access)
  unfolding open_outcome decided
  open_view t f e = rw e (by_test t f e (eqb (number_by f) 0) refl)
