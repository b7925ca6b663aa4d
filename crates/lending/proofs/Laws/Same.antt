-- Two tables with the same record at a handle's place: what is decided of a call is decided alike on both, and where it ends well
-- the same record stands at both places.
use Rattle.std.specs.Prelude.{ℕ, ◌<◌, Bool, true, false, cond, ◌&&◌, List, [], ◌∷◌, ◌≡◌, refl, leb, ltb, length, get_or, set}
use Rattle.std.proofs.Common.{arith, ◌∙◌, length-set, set-set, lt-ltb, le-ltb}
use Rattle.std.proofs.Math.Decide.{dec_lt}
use Rattle.std.proofs.Math.Bool.{not}
use Rattle.std.proofs.Math.Path.{sym, ap}
use Rattle.std.proofs.lemmas.List.{set-get_or}
use Rattle.std.proofs.lemmas.Bool.{not-false}
use Rattle.diskette.specs.Places.{slot_at, root_entries}
use Rattle.opened.specs.Records.{place_count}
use Rattle.opened.specs.Places.{is_live}
use Rattle.opened.specs.Aids.Places.{holds_file}
use Rattle.opened.proofs.Laws.Places.{live_is}
use Rattle.calls.specs.Outcome.{Row, Outcome, outcome, decided}
use Rattle.calls.specs.Refusals.{the_kind, not_live}
use Rattle.calls.proofs.Laws.Rows.{row_holds, row_passed, no_row}
use Rattle.records.specs.Row.{unused, record_of, row_of, record_at, with_record_at}
use Rattle.records.proofs.Laws.Alike.{record_alike, read_none}
use Rattle.records.specs.declared.OpenRecord.{OpenRecord}

-- a record put back where it stood
put_same : (row : List OpenRecord) (p : ℕ) → with_record_at row p (record_at row p) ≡ row
unfolding with_record_at record_at
put_same row p = by_tests (ltb p 16) (ltb p (length row))
  where
    by_tests : (a b : Bool) → cond a (cond b (set row p (cond a (cond b (get_or row p unused) unused) unused)) row) row ≡ row
    by_tests true true = set-get_or row p unused
    by_tests true false = refl
    by_tests false b = refl

-- a record put where another was put before
pub put_twice : (row : List OpenRecord) (p : ℕ) (r r' : OpenRecord) → with_record_at (with_record_at row p r) p r' ≡ with_record_at row p r'
unfolding with_record_at
put_twice row p r r' = by_tests (ltb p 16) (ltb p (length row)) refl
  where
    by_tests : (a b : Bool) → ltb p (length row) ≡ b → cond a (cond (ltb p (length (cond a (cond b (set row p r) row) row))) (set (cond a (cond b (set row p r) row) row) p r') (cond a (cond b (set row p r) row) row)) (cond a (cond b (set row p r) row) row) ≡ cond a (cond b (set row p r') row) row
    by_tests true true e = rw (length-set row p r, e, set-set row p r r')
    by_tests true false e = rw e
    by_tests false b e = refl

-- ---- a handle is live by its record

abbrev live_in : OpenRecord → List ℕ → (ℕ → ℕ) → ℕ → Bool
live_in r l way count = r.used && (leb r.access 2 && holds_file l way count r.slot)

live_by : (t : List ℕ) (h : ℕ) (l : List ℕ) (way : ℕ → ℕ) (count : ℕ) → is_live t h l way count ≡ live_in (record_at (row_of t) h) l way count
unfolding is_live record_of
live_by t h l way count = elim (dec_lt h (place_count t)) [
  | yes k ↦ rw (lt-ltb h (place_count t) k, record_alike t h k)
  | no k ↦ rw (le-ltb h (place_count t) (omega arith), ← read_none t h (place_count t) refl (omega arith))
]

pub live_counted : (img t : List ℕ) (h : ℕ) → not_live img t h ≡ false → h < place_count t
unfolding not_live
live_counted img t h e = ((live_is t h img (slot_at (the_kind img)) (root_entries (the_kind img))).0 (not-false _ e)).counted

-- ---- the tables t and t', the places h and h'

module _ (t : List ℕ) (h : ℕ) (t' : List ℕ) (h' : ℕ) where
  pub record Same (o o' : Outcome) : Type 0 where
    pub number : o.number ≡ o'.number
    pub value : o.value ≡ o'.value
    pub image : o.image ≡ o'.image
    pub buffer : o.buffer ≡ o'.buffer
    -- the record then, at both places
    pub after : OpenRecord
    pub there : row_of o.table ≡ with_record_at (row_of t) h after
    pub here : row_of o'.table ≡ with_record_at (row_of t') h' after

  module _ (e : record_at (row_of t) h ≡ record_at (row_of t') h') where
    pub live_same : (img : List ℕ) → not_live img t h ≡ not_live img t' h'
    unfolding not_live
    live_same img =
        let k = the_kind img in
        ap not (live_by t h img (slot_at k) (root_entries k) ∙ ap (λ (r : OpenRecord). live_in r img (slot_at k) (root_entries k)) e ∙ sym (live_by t' h' img (slot_at k) (root_entries k)))

    pub fields_same : h < place_count t → h' < place_count t' → record_of t h ≡ record_of t' h'
    fields_same k k' = sym (record_alike t h k) ∙ e ∙ record_alike t' h' k'

    -- what leaves both as they are
    pub refused : (n : ℕ) (img buf : List ℕ) → Same (outcome n 0 img t buf) (outcome n 0 img t' buf)
    refused n img buf = record {
      number = refl;
      value = refl;
      image = refl;
      buffer = refl;
      after = record_at (row_of t) h;
      there = sym (put_same (row_of t) h);
      here = sym (put_same (row_of t') h') ∙ ap (with_record_at (row_of t') h') (sym e);
    }

    module _ (x x' : Outcome) (img buf : List ℕ) where
      -- one row of the refusals
      pub row_same : (a a' : Bool) → a ≡ a' → (n : ℕ) → 0 < n → (rs rs' : List Row) → (a ≡ false → Same (decided rs x img t buf) (decided rs' x' img t' buf))
          → Same (decided ((a, n) ∷ rs) x img t buf) (decided ((a', n) ∷ rs') x' img t' buf)
      row_same true a' f n p rs rs' k = rw (row_holds x img t buf true n rs refl p, row_holds x' img t' buf a' n rs' (sym f) p) (refused n img buf)
      row_same false a' f n p rs rs' k = rw (row_passed x img t buf false n rs refl, row_passed x' img t' buf a' n rs' (sym f)) (k refl)

      -- after the last
      pub rows_over : Same x x' → Same (decided [] x img t buf) (decided [] x' img t' buf)
      rows_over s = rw (no_row x img t buf, no_row x' img t' buf) s
