-- What a walk of the row has found out where it ends.
use Rattle.std.specs.Prelude.{ℕ, Bool, true, false, cond, not, List, ◌≡◌, refl, T, ltb, length, get_or, set, ◌<◌, ◌≤◌, Option, Some, None, MatchOption}
use Rattle.std.proofs.Common.{◌∙◌, Bor, lt-ltb, le-ltb}
use Rattle.std.specs.List.{HoldsAt}
use Rattle.std.specs.Option.{UnwrapsOrElse, option_copied}
use Rattle.records.specs.declared.OpenRecord.{OpenRecord}
use Rattle.records.specs.Row.{unused, record_at, with_record_at}

taken : {A : Type 0} (z : Bool) (a b : A) → T z → a ≡ cond z a b
taken true a b h = refl
taken false a b h = absurd h

left : {A : Type 0} (z : Bool) (a b : A) → T (not z) → b ≡ cond z a b
left true a b h = absurd h
left false a b h = refl

-- ---- the record at a place
module _ (row : List OpenRecord) (p : ℕ) where
  pub record_within : T (ltb p 16) → T (ltb p (length row)) → get_or row p unused ≡ record_at row p
  unfolding record_at
  record_within few within = taken (ltb p (length row)) (get_or row p unused) unused within ∙ taken (ltb p 16) _ unused few

  pub record_over : T (ltb p 16) → T (not (ltb p (length row))) → unused ≡ record_at row p
  unfolding record_at
  record_over few over = left (ltb p (length row)) (get_or row p unused) unused over ∙ taken (ltb p 16) _ unused few

  pub record_past : T (not (ltb p 16)) → unused ≡ record_at row p
  unfolding record_at
  record_past past = left (ltb p 16) _ unused past

-- ---- a record made with nothing given is an unused one

abbrev IsDefault : OpenRecord → Type 0
IsDefault r = (r.used ≡ false) × ((r.slot ≡ 0) × ((r.access ≡ 0) × ((r.pointer ≡ 0) × (r.written ≡ false))))

pub default_is : {r : OpenRecord} → IsDefault r → r ≡ unused
default_is {r} h = rw (h.0, h.1.0, h.1.1.0, h.1.1.1.0, h.1.1.1.1)

-- r is what the code has found in the row, by what the row has at place p
module _ (row : List OpenRecord) (p : ℕ) (r : OpenRecord) where
  pub record_got : (o : Option (Bor OpenRecord)) → p < 16 → MatchOption o (length row ≤ p) (λ x. (p < length row) × HoldsAt (λ y. x.now ≡ y) row p)
      → UnwrapsOrElse (option_copied o) IsDefault r → r ≡ record_at row p
  unfolding record_at
  record_got None few past u = rw (lt-ltb p 16 few, le-ltb p (length row) past) (default_is u)
  record_got (Some x) few at u = rw (lt-ltb p 16 few, lt-ltb p (length row) at.0) (u ∙ at.1 unused)

  pub record_beyond : 16 ≤ p → IsDefault r → r ≡ record_at row p
  unfolding record_at
  record_beyond past d = rw (le-ltb p 16 past) (default_is d)

-- ---- a record stored at a place
module _ (row : List OpenRecord) (p : ℕ) (r : OpenRecord) where
  pub put_within : T (ltb p 16) → T (ltb p (length row)) → set row p r ≡ with_record_at row p r
  unfolding with_record_at
  put_within few within = taken (ltb p (length row)) (set row p r) row within ∙ taken (ltb p 16) _ row few
