-- Open: what it refuses and what it leaves, by its rows. Only one outcome fits.
use Rattle.std.specs.Prelude.{ℕ, ◌≤◌, ◌<◌, Bool, true, false, ◌&&◌, List, [], ◌∷◌, ◌≡◌, refl, ltb, Option, Result, Ok, Err, ok_or}
use Rattle.std.proofs.Common.{sym, ap, ◌∙◌}
use borrow.Author.Tests.{lt-ltb, le-ltb}
use Rattle.opened.specs.Records.{with_record}
use Rattle.opened.specs.Places.{lowest_unused}
use Rattle.calls.specs.declared.refusal.Refusal.{Refusal}
use Rattle.calls.specs.declared.refusal.Refusal.TheVariants.{TooManyOpen}
use Rattle.calls.proofs.Laws.Exits.{had}
use Rattle.calls.specs.Numbers.{access_denied, refusal_number}
use Rattle.calls.specs.Outcome.{Row, Outcome, refusal, decided}
use Rattle.calls.specs.Refusals.{read_only, file_slot}
use Rattle.calls.proofs.Laws.Rows.{Stops, stops_at, stops_past, stopped}
use Rattle.calls.proofs.Laws.Named.{FileNamed}
use Rattle.calls.specs.Answers.{Answer}
use Rattle.calls.proofs.Laws.Told.{told_only}
use Rattle.opening.specs.Open.{open_rows, open_outcome, Opens}

pub opens_only : {img t s : List ℕ} {access : ℕ} {r r' : Answer} {m m' : List ℕ} → Opens img t s access r m → Opens img t s access r' m'
    → (r ≡ r') × (m ≡ m')
opens_only x y =
    let e = x.is ∙ sym y.is in
    (told_only (ap (λ (o : Outcome). o.number) e) (ap (λ (o : Outcome). o.value) e), ap (λ (o : Outcome). o.table) e)

-- ---- its rows: one stops it, or all are passed

pub open_refused : {img t s : List ℕ} {access : ℕ} {a : Answer} {e : Refusal} → a ≡ Err e → Stops (open_rows img t s access) (refusal_number e)
    → Opens img t s access a t
unfolding open_outcome
open_refused x q = record { is = rw x (sym (stopped _ _ q _ _ _ [])) }

module _ (img t s : List ℕ) (access : ℕ) (a : Answer) where
  pub open_well : access ≤ 2 → (slot : ℕ) (b : Bool) → b ≡ (ltb 0 access && read_only img slot) → b ≡ false
      → (p : Option ℕ) → p ≡ lowest_unused t → (o : Result ℕ Refusal) → o ≡ ok_or p TooManyOpen → (place : ℕ) → o ≡ Ok place
      → (m : List ℕ) → m ≡ with_record t place access slot 0 false → a ≡ Ok place → FileNamed img s slot → Opens img t s access a m
  unfolding open_outcome decided refusal
  open_well small slot b barred free p lowest o wanted place there m e x i = record {
    is = rw (x, e, i.known, i.sound, le-ltb 2 access small, i.good, i.found, ← barred, free, ← lowest, had p TooManyOpen o wanted place there);
  }

-- ---- a read-only file opens with access 0 alone; b is whether it is barred

module _ (img s : List ℕ) (access slot : ℕ) (b : Bool) (is : b ≡ (ltb 0 access && read_only img slot)) (rows : List Row) where
  pub barred_stops : b ≡ true → file_slot img s ≡ slot → Stops ((ltb 0 access && read_only img (file_slot img s), access_denied) ∷ rows) access_denied
  barred_stops q there = stops_at _ access_denied rows (rw (there, ← is, q)) refl

  pub barred_past : b ≡ false → (m n : ℕ) → Stops rows n → file_slot img s ≡ slot → Stops ((ltb 0 access && read_only img (file_slot img s), m) ∷ rows) n
  barred_past q m n x there = stops_past _ m n rows (rw (there, ← is, q)) x

module _ (access : ℕ) (ro : Bool) where
  pub barred_by : 0 < access → (r : Bool) → r ≡ ro → r ≡ (ltb 0 access && ro)
  barred_by h r e = rw (lt-ltb 0 access h, e)

  pub not_barred : access ≤ 0 → false ≡ (ltb 0 access && ro)
  not_barred h = rw (le-ltb 0 access h)
