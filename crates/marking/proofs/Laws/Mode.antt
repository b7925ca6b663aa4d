-- File mode: what it refuses and what it leaves, by its rows. Only one outcome fits.
use Rattle.std.specs.Prelude.{ℕ, ◌≤◌, Bool, true, false, ◌&&◌, List, [], ◌∷◌, ◌≡◌, refl, eqb, ltb, Result, Ok, Err}
use Rattle.std.proofs.Common.{arith, sym, ap, ◌∙◌}
use Rattle.diskette.specs.Places.{slot_at}
use Rattle.diskette.specs.declared.Kind.{Kind}
use Rattle.fields.specs.Fields.{attr_of, with_attr}
use Rattle.opened.specs.Places.{is_open}
use Rattle.calls.specs.declared.refusal.Refusal.{Refusal}
use Rattle.calls.specs.Numbers.{access_denied, invalid_function, refusal_number}
use Rattle.calls.specs.Outcome.{Row, Outcome, refusal, decided}
use Rattle.calls.specs.Refusals.{bad_attr, file_slot}
use Rattle.calls.specs.Aids.Ready.{OnVolume}
use Rattle.calls.proofs.Laws.Ready.{on_kind_lem}
use Rattle.calls.proofs.Laws.Rows.{Stops, stops_at, stops_past, stopped, above_stops, above_past}
use Rattle.calls.proofs.Laws.Named.{FileNamed}
use Rattle.calls.specs.Answers.{Answer}
use Rattle.calls.proofs.Laws.Told.{told_only}
use Rattle.marking.specs.Mode.{mode_rows, mode_outcome, Modes}
use Rattle.marking.specs.Aids.Mode.{number_of, AsksFor}
use Rattle.marking.specs.declared.mode.Function.{Function}
use Rattle.marking.specs.declared.mode.Function.TheVariants.{Tell, Set}

pub modes_only : {img t s : List ℕ} {function attr : ℕ} {r r' : Answer} {m m' : List ℕ} → Modes img t s function attr r m → Modes img t s function attr r' m'
    → (r ≡ r') × (m ≡ m')
modes_only x y =
    let e = x.is ∙ sym y.is in
    (told_only (ap (λ (o : Outcome). o.number) e) (ap (λ (o : Outcome). o.value) e), ap (λ (o : Outcome). o.image) e)

-- ---- the function: r is what its number asks for

most : (f : Function) → number_of f ≤ 1
most Tell = omega arith
most Set = omega arith

module _ (function : ℕ) (r : Result Function Refusal) (asks : AsksFor function r) where
  pub function_stops : (e : Refusal) → r ≡ Err e → (rows : List Row) → Stops ((ltb 1 function, invalid_function) ∷ rows) (refusal_number e)
  function_stops e q rows = let h = rw q at asks in rw h.0 (above_stops 1 function invalid_function rows h.1 refl)

  pub function_past : (f : Function) → r ≡ Ok f → (m n : ℕ) (rows : List Row) → Stops rows n → Stops ((ltb 1 function, m) ∷ rows) n
  function_past f q m n rows x = let h = rw q at asks in above_past 1 function m rows (rw (← h) (most f)) n x

-- ---- the rows of the one that sets

module _ (function : ℕ) (f : Function) (asked : number_of f ≡ function) (set : f ≡ Set) where
  sets : eqb function 1 ≡ true
  sets = rw (← asked, set)

  pub attr_stops : (attr : ℕ) (b : Bool) → b ≡ bad_attr attr → b ≡ true → (rows : List Row) → Stops ((eqb function 1 && bad_attr attr, access_denied) ∷ rows) access_denied
  attr_stops attr b is q rows = stops_at _ access_denied rows (rw (sets, ← is, q)) refl

  pub attr_past : (attr : ℕ) (b : Bool) → b ≡ bad_attr attr → b ≡ false → (m n : ℕ) (rows : List Row) → Stops rows n → Stops ((eqb function 1 && bad_attr attr, m) ∷ rows) n
  attr_past attr b is q m n rows x = stops_past _ m n rows (rw (sets, ← is, q)) x

  pub open_stops : (img t s : List ℕ) (slot : ℕ) (o : Bool) → o ≡ is_open t slot → o ≡ true → file_slot img s ≡ slot
      → (rows : List Row) → Stops ((eqb function 1 && is_open t (file_slot img s), access_denied) ∷ rows) access_denied
  open_stops img t s slot o is q there rows = stops_at _ access_denied rows (rw (sets, there, ← is, q)) refl

-- ---- one row stops it, or all are passed

pub mode_refused : {img t s : List ℕ} {function attr : ℕ} {a : Answer} {e : Refusal} → a ≡ Err e → Stops (mode_rows img t s function attr) (refusal_number e)
    → Modes img t s function attr a img
unfolding mode_outcome
mode_refused x q = record { is = rw x (sym (stopped _ _ q _ _ _ [])) }

module _ (img t s : List ℕ) (function attr : ℕ) (f : Function) (asked : number_of f ≡ function) (a : Answer) where
  module _ (k : Kind) (v : OnVolume img k) (slot e : ℕ) (i : e ≡ slot_at k slot) where
    pub mode_read : f ≡ Tell → (b : ℕ) → b ≡ attr_of img e → (n : ℕ) → n ≡ b → a ≡ Ok n → FileNamed img s slot → Modes img t s function attr a img
    unfolding mode_outcome decided refusal
    mode_read tell b j n from x y = record { is = rw (x, from, j, i, ← asked, tell, y.known, y.sound, y.good, y.found, on_kind_lem img k v) }

    pub mode_set : f ≡ Set → (b : Bool) → b ≡ bad_attr attr → b ≡ false → (o : Bool) → o ≡ is_open t slot → o ≡ false
        → (m : List ℕ) → m ≡ with_attr img e attr → a ≡ Ok 0 → FileNamed img s slot → Modes img t s function attr a m
    unfolding mode_outcome decided refusal
    mode_set set b bad good o used shut m j x y = record {
      is = rw (x, j, i, ← asked, set, y.known, y.sound, y.good, y.found, ← bad, good, ← used, shut, on_kind_lem img k v);
    }
