-- The effect of write, of the file whose entry starts at byte a.
use Rattle.std.specs.Prelude.{ℕ, ◌+◌, cond, List, [], ◌≡◌, eqb, length, take}
use Rattle.diskette.specs.declared.Kind.{Kind}
use Rattle.opened.specs.Records.{pointer_of, with_pointer, with_written}
use Rattle.calls.specs.Outcome.{Outcome, outcome}
use Rattle.calls.specs.Answers.{Answer, number_told, value_told}
use Rattle.putting.specs.Written.{written_in}
use Rattle.writing.specs.Write.{write_count}

unfoldable pub write_at : Kind → List ℕ → List ℕ → ℕ → ℕ → List ℕ → Outcome
write_at k img t a h bs =
    let pointer = pointer_of t h in
    let n = write_count k img a pointer (length bs) in
    cond (eqb n 0) (outcome 0 0 img t [])
    (outcome 0 n (written_in k img a pointer (take n bs)) (with_written (with_pointer t h (pointer + n)) h) [])

pub record WritesAt (k : Kind) (img t : List ℕ) (a h : ℕ) (bs : List ℕ) (r : Answer) (after table : List ℕ) : Type 0 where
  pub is : outcome (number_told r) (value_told r) after table [] ≡ write_at k img t a h bs
