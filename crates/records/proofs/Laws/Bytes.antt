-- A record stored as bytes: each way out, and that it reads back as it was.
use Rattle.std.specs.Prelude.{ℕ, ◌≤◌, ◌<◌, Bool, cond, List, ◌≡◌, refl}
use Rattle.std.proofs.Common.{arith, ◌∙◌}
use Rattle.std.proofs.Math.Bool.{true, false}
use Rattle.std.proofs.Math.Path.{sym, ap}
use borrow.Author.Tests.{lt-ltb, le-ltb}
use Rattle.opened.specs.Records.{place_count, with_record, with_written, cleared}
use Rattle.opened.specs.Changes.{PlaceHolds}
use Rattle.opened.proofs.Laws.Stores.{record_only, record_holds, written_holds, cleared_holds}
use Rattle.opened.proofs.Laws.Uses.{only_count}
use Rattle.records.specs.declared.OpenRecord.{OpenRecord}
use Rattle.records.specs.Row.{unused, record_of, taken_bytes, in_bytes}
use Rattle.records.proofs.Laws.Alike.{record_of_lem}

module _ (t : List ℕ) (p : ℕ) (r : OpenRecord) (count : ℕ) (is : count ≡ place_count t) where
  pub bytes_past : count ≤ p → (m : List ℕ) → m ≡ t → m ≡ in_bytes t p r
  unfolding in_bytes
  bytes_past h m e = rw (e, le-ltb p (place_count t) (omega arith))

  module _ (k : p < count) where
    pub bytes_freed : r.used ≡ false → (m : List ℕ) → m ≡ cleared t p → m ≡ in_bytes t p r
    unfolding in_bytes
    bytes_freed u m e = rw (e, lt-ltb p (place_count t) (omega arith), u)

    module _ (u : r.used ≡ true) (m : List ℕ) (e : m ≡ with_record t p r.access r.slot r.pointer false) where
      pub bytes_taken : r.written ≡ false → m ≡ in_bytes t p r
      unfolding in_bytes taken_bytes
      bytes_taken w = rw (e, lt-ltb p (place_count t) (omega arith), u, w)

      pub bytes_written : r.written ≡ true → (m' : List ℕ) → m' ≡ with_written m p → m' ≡ in_bytes t p r
      unfolding in_bytes taken_bytes
      bytes_written w m' f = rw (f, e, lt-ltb p (place_count t) (omega arith), u, w)

-- ---- what was stored reads back
module _ (t : List ℕ) (p : ℕ) (k : p < place_count t) (r : OpenRecord) where
  counted : record_of (in_bytes t p r) p ≡ record_of (cond r.used (taken_bytes t p r) (cleared t p)) p
  unfolding in_bytes
  counted = ap (λ (z : Bool). record_of (cond z (cond r.used (taken_bytes t p r) (cleared t p)) t) p) (lt-ltb p (place_count t) k)

  module _ (u : r.used ≡ true) (slot_fits : r.slot < 4294967296) (pointer_fits : r.pointer < 4294967296) where
    abbrev m : List ℕ
    m = with_record t p r.access r.slot r.pointer false

    holds : PlaceHolds m p true r.access r.slot r.pointer false
    holds = record_holds t p k r.access r.slot r.pointer false slot_fits pointer_fits

    still : p < place_count m
    still = let e = only_count p m t (record_only t p k r.access r.slot r.pointer false) in omega arith

    by_mark : (w : Bool) → r.written ≡ w → record_of (taken_bytes t p r) p ≡ r
    unfolding taken_bytes
    by_mark true e =
        let b = written_holds m p still in
        ap (λ (z : Bool). record_of (cond z (with_written m p) m) p) e ∙ record_of_lem (with_written m p) p r (record { used = b.used ∙ holds.used ∙ sym u; access = b.access ∙ holds.access; slot = b.slot ∙ holds.slot; pointer = b.pointer ∙ holds.pointer; written = b.written ∙ sym e })
    by_mark false e =
        ap (λ (z : Bool). record_of (cond z (with_written m p) m) p) e ∙ record_of_lem m p r (record { used = holds.used ∙ sym u; access = holds.access; slot = holds.slot; pointer = holds.pointer; written = holds.written ∙ sym e })

    pub used_back : record_of (in_bytes t p r) p ≡ r
    used_back = counted ∙ ap (λ (z : Bool). record_of (cond z (taken_bytes t p r) (cleared t p)) p) u ∙ by_mark r.written refl

  pub freed_back : r.used ≡ false → record_of (in_bytes t p r) p ≡ unused
  freed_back u = counted ∙ ap (λ (z : Bool). record_of (cond z (taken_bytes t p r) (cleared t p)) p) u ∙ record_of_lem (cleared t p) p unused (cleared_holds t p k)
