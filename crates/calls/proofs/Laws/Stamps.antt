-- Row 43, in the form of the code's needs: p is what the stamp packs to.
use Rattle.std.specs.Prelude.{ℕ, List, ◌∷◌, ◌≡◌, refl, Option, Result, Ok, Err, ok_or}
use Rattle.stamps.specs.Stamps.{packed}
use Rattle.stamps.specs.declared.Stamp.{Stamp}
use Rattle.calls.specs.Outcome.{Row}
use Rattle.calls.specs.Numbers.{out_of_range, refusal_number}
use Rattle.calls.specs.declared.refusal.Refusal.{Refusal}
use Rattle.calls.specs.declared.refusal.Refusal.TheVariants.{OutOfRange}
use Rattle.calls.proofs.Laws.Exits.{lacked, had}
use Rattle.calls.specs.Refusals.{bad_stamp}
use Rattle.calls.proofs.Laws.Rows.{Stops, stops_at, stops_past}

module _ (s : Stamp) (p : Option (ℕ × ℕ)) (pack : p ≡ packed s) (r : Result (ℕ × ℕ) Refusal) (asked : r ≡ ok_or p OutOfRange) (rows : List Row) where
  pub stamp_stops : (e : Refusal) → r ≡ Err e → Stops ((bad_stamp s, out_of_range) ∷ rows) (refusal_number e)
  stamp_stops e q =
      let l = lacked p OutOfRange r asked e q in
      rw (← l.1) (stops_at (bad_stamp s) out_of_range rows (rw (← pack, l.0)) refl)

  pub stamp_past : (time date : ℕ) → r ≡ Ok (time, date) → (m n : ℕ) → Stops rows n → Stops ((bad_stamp s, m) ∷ rows) n
  stamp_past time date q m n x = stops_past (bad_stamp s) m n rows (rw (← pack, had p OutOfRange r asked (time, date) q)) x

-- for `search`
pub ruleset stamped = (stamp_stops, stamp_past)
