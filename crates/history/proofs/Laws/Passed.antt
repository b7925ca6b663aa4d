-- Any row of a call that was not refused: its test is false. The first row is row 0.
use Rattle.std.specs.Prelude.{ℕ, zero, suc, Bool, true, false, not, ◌&&◌, List, [], ◌∷◌, ◌≡◌, refl, eqb}
use Rattle.std.proofs.lemmas.Bool.{eqb-false, not-true}
use Rattle.chains.proofs.Laws.Tests.{clash}
use Rattle.calls.specs.Outcome.{Row, refusal}
use Rattle.history.proofs.Laws.Rows.{passed}

-- every row has a number: none of them is 0
abbrev pub numbered : List Row → Bool
numbered [] = true
numbered (r ∷ rows) = not (eqb r.1 0) && numbered rows

abbrev pub test_of : List Row → ℕ → Bool
test_of [] i = false
test_of (r ∷ rows) zero = r.0
test_of (r ∷ rows) (suc i) = test_of rows i

both : (a b : Bool) → (a && b) ≡ true → (a ≡ true) × (b ≡ true)
both true b e = (refl, e)
both false b e = absurd (clash e refl)

module _ (r : Row) (rows : List Row) (e : numbered (r ∷ rows) ≡ true) (p : refusal (r ∷ rows) ≡ 0) where
  numbers : (eqb r.1 0 ≡ false) × (numbered rows ≡ true)
  numbers = let n = both (not (eqb r.1 0)) (numbered rows) e in (not-true (eqb r.1 0) n.0, n.1)

  first : (r.0 ≡ false) × (refusal rows ≡ 0)
  first = passed r.0 r.1 rows (eqb-false r.1 0 numbers.0) p

pub passed_row : (rows : List Row) → numbered rows ≡ true → refusal rows ≡ 0 → (i : ℕ) → test_of rows i ≡ false
passed_row [] e p i = refl
passed_row (r ∷ rows) e p zero = (first r rows e p).0
passed_row (r ∷ rows) e p (suc i) = passed_row rows (numbers r rows e p).1 (first r rows e p).1 i
