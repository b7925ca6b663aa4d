-- Refusals in order: a row that holds answers its number and leaves all; one that doesn't is passed; after the last, the effect.
use Rattle.std.specs.Prelude.{ℕ, ◌≤◌, ◌<◌, Bool, true, false, List, [], ◌∷◌, ◌≡◌, eqb, ltb}
use Rattle.std.proofs.Common.{arith, sym, ◌∙◌}
use Rattle.std.proofs.Math.Path.{refl}
use borrow.Author.Tests.{lt-ltb, le-ltb, ne_eqb}
use Rattle.calls.specs.Outcome.{Row, Outcome, outcome, refusal, decided}

module _ (effect : Outcome) (l t b : List ℕ) where
  pub row_holds : (test : Bool) (n : ℕ) (rows : List Row) → test ≡ true → 0 < n → decided ((test, n) ∷ rows) effect l t b ≡ outcome n 0 l t b
  unfolding decided refusal
  row_holds test n rows e h = rw (e, ne_eqb n 0 (omega arith))

  pub row_passed : (test : Bool) (n : ℕ) (rows : List Row) → test ≡ false → decided ((test, n) ∷ rows) effect l t b ≡ decided rows effect l t b
  unfolding decided refusal
  row_passed test n rows e = rw e

  pub no_row : decided [] effect l t b ≡ effect
  unfolding decided refusal
  no_row = refl

-- ---- which row stops a call, for `search`: one with the number n holds, after others that don't

pub record Stops (rows : List Row) (n : ℕ) : Type 0 where
  pub number : refusal rows ≡ n
  pub some : eqb n 0 ≡ false

pub stops_at : (test : Bool) (n : ℕ) (rows : List Row) → test ≡ true → eqb n 0 ≡ false → Stops ((test, n) ∷ rows) n
unfolding refusal
stops_at test n rows e h = record { number = rw e; some = h }

pub stops_past : (test : Bool) (m n : ℕ) (rows : List Row) → test ≡ false → Stops rows n → Stops ((test, m) ∷ rows) n
unfolding refusal
stops_past test m n rows e x = record { number = rw e x.number; some = x.some }

pub stopped : (rows : List Row) (n : ℕ) → Stops rows n → (effect : Outcome) (l t b : List ℕ) → decided rows effect l t b ≡ outcome n 0 l t b
unfolding decided
stopped rows n x effect l t b = rw (x.number, x.some)

-- ---- rows by what the code found

-- a test that it made: b is the answer
module _ (b test : Bool) (is : b ≡ test) (n : ℕ) (rows : List Row) where
  pub test_stops : b ≡ true → eqb n 0 ≡ false → Stops ((test, n) ∷ rows) n
  test_stops e h = stops_at test n rows (sym is ∙ e) h

  pub test_past : b ≡ false → (m : ℕ) → Stops rows m → Stops ((test, n) ∷ rows) m
  test_past e m x = stops_past test n m rows (sym is ∙ e) x

-- a number above the most that is allowed
module _ (most x n : ℕ) (rows : List Row) where
  pub above_stops : most < x → eqb n 0 ≡ false → Stops ((ltb most x, n) ∷ rows) n
  above_stops e h = stops_at (ltb most x) n rows (lt-ltb most x e) h

  pub above_past : x ≤ most → (m : ℕ) → Stops rows m → Stops ((ltb most x, n) ∷ rows) m
  above_past e m y = stops_past (ltb most x) n m rows (le-ltb most x e) y

-- for `search`
pub ruleset tests = (test_stops, test_past)

pub ruleset bounds = (above_stops, above_past)
