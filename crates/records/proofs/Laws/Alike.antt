-- The row that a table's bytes say: both forms of the table answer alike.
use Rattle.std.specs.Prelude.{ℕ, zero, suc, ◌+◌, ◌/◌, ◌≤◌, ◌<◌, Bool, List, ◌≡◌, refl, ltb, length, get_or}
use native.Mathlib.Omega.{arith}
use Rattle.std.proofs.Math.Decide.{dec_lt}
use Rattle.std.proofs.Math.Bool.{not}
use Rattle.std.proofs.Common.{sym, ◌∙◌, lt→ltb, ltb→lt}
use Rattle.std.proofs.Math.Path.{ap}
use Rattle.std.proofs.Math.Dec.{not_T}
use Rattle.search.specs.Search.{lowest, is_found}
use Rattle.search.proofs.Laws.Meaning.{lowest_same}
use Rattle.opened.specs.Records.{place_count, used_of, slot_of, access_of, pointer_of, written_of}
use Rattle.opened.specs.Places.{lowest_unused, is_open}
use Rattle.opened.specs.Aids.Places.{names_slot, unused_at}
use Rattle.opened.specs.Changes.{PlaceHolds}
use Rattle.records.specs.declared.OpenRecord.{OpenRecord}
use Rattle.records.specs.Row.{unused, record_of, row_from, row_of, row_count, record_at, unused_in, lowest_unused_in, names_in, is_open_in}
use Rattle.records.proofs.Laws.Row.{record_within, record_over, record_past}

-- ---- the row by index

length_from : (t : List ℕ) (p n : ℕ) → length (row_from t p n) ≡ n
unfolding row_from
length_from t p zero = refl
length_from t p (suc n) = ap suc (length_from t (p + 1) n)

read_from : (t : List ℕ) (p n i : ℕ) → i < n → get_or (row_from t p n) i unused ≡ record_of t (p + i)
unfolding row_from
read_from t p zero i h = absurd (omega arith)
read_from t p (suc n) zero h = let e : p ≡ p + 0 = omega arith in ap (record_of t) e
read_from t p (suc n) (suc i) h = let e : p + 1 + i ≡ p + suc i = omega arith in read_from t (p + 1) n i (omega arith) ∙ ap (record_of t) e

module _ (t : List ℕ) where
  pub row_length : length (row_of t) ≡ length t / 16
  unfolding row_of
  row_length = length_from t 0 (length t / 16)

  pub row_count_lem : row_count (row_of t) ≡ place_count t
  row_count_lem = rw row_length

  pub row_reads : (p : ℕ) → p < length t / 16 → get_or (row_of t) p unused ≡ record_of t p
  unfolding row_of
  row_reads p h = let e : 0 + p ≡ p = omega arith in read_from t 0 (length t / 16) p h ∙ ap (record_of t) e

-- ---- a record and the five fields of its bytes

pub fields_of : (t : List ℕ) (p : ℕ) (r : OpenRecord) → record_of t p ≡ r → PlaceHolds t p r.used r.access r.slot r.pointer r.written
unfolding record_of
fields_of t p r e = record {
  used = ap (λ (x : OpenRecord). x.used) e;
  access = ap (λ (x : OpenRecord). x.access) e;
  slot = ap (λ (x : OpenRecord). x.slot) e;
  pointer = ap (λ (x : OpenRecord). x.pointer) e;
  written = ap (λ (x : OpenRecord). x.written) e;
}

pub record_of_lem : (t : List ℕ) (p : ℕ) (r : OpenRecord) → PlaceHolds t p r.used r.access r.slot r.pointer r.written → record_of t p ≡ r
unfolding record_of
record_of_lem t p r h = rw (h.used, h.access, h.slot, h.pointer, h.written)

-- ---- the answers

module _ (t : List ℕ) where
  pub record_alike : (p : ℕ) → p < place_count t → record_at (row_of t) p ≡ record_of t p
  record_alike p h =
      let e = row_length t in
      sym (record_within (row_of t) p (lt→ltb p 16 (omega arith)) (lt→ltb p (length (row_of t)) (omega arith))) ∙ row_reads t p (omega arith)

  search_alike : (p q : ℕ → Bool) → ((i : ℕ) → i < place_count t → p i ≡ q i) → lowest p 0 (row_count (row_of t)) ≡ lowest q 0 (place_count t)
  search_alike p q h = ap (lowest p 0) (row_count_lem t) ∙ lowest_same p q 0 (place_count t) (λ i _ k. h i (omega arith))

  pub unused_alike : lowest_unused_in (row_of t) ≡ lowest_unused t
  unfolding lowest_unused_in lowest_unused record_of
  unused_alike = search_alike (unused_in (row_of t)) (unused_at t) (λ i h. ap (λ (r : OpenRecord). not r.used) (row_reads t i (omega arith)))

  pub open_alike : (slot : ℕ) → is_open_in (row_of t) slot ≡ is_open t slot
  unfolding is_open_in is_open record_of
  open_alike slot = ap is_found (search_alike (names_in (row_of t) slot) (names_slot t slot) (λ i h. rw (row_reads t i (omega arith))))

-- ---- a record read from bytes
module _ (t : List ℕ) (p count : ℕ) (is : count ≡ place_count t) where
  pub read_none : count ≤ p → unused ≡ record_at (row_of t) p
  read_none h = elim (dec_lt p 16) [
    | yes few ↦ let e = row_length t in record_over (row_of t) p (lt→ltb p 16 few) (not_T (ltb p (length (row_of t))) (λ z. let k = ltb→lt p (length (row_of t)) z in absurd (omega arith)))
    | no many ↦ record_past (row_of t) p (not_T (ltb p 16) (λ z. many (ltb→lt p 16 z)))
  ]

  pub read_some : p < count → (u : Bool) → u ≡ used_of t p → (s : ℕ) → s ≡ slot_of t p → (a : ℕ) → a ≡ access_of t p → (x : ℕ) → x ≡ pointer_of t p → (w : Bool) → w ≡ written_of t p
      → record { used = u; slot = s; access = a; pointer = x; written = w } ≡ record_at (row_of t) p
  unfolding record_of
  read_some h u eu s es a ea x ex w ew = rw (eu, es, ea, ex, ew) (sym (record_alike t p (omega arith)))
