-- "Format takes a kind byte and an image of that kind's length .. It reads nothing of the old volume and refuses only by 40."
use Rattle.std.specs.Prelude.{ℕ, ◌-◌, ◌*◌, cond, List, [], ◌∷◌, ◌++◌, ◌≡◌, eqb, length, replicate, Option, Some, None, Result}
use Rattle.image.specs.Store.{stored}
use Rattle.diskette.specs.Kinds.{named}
use Rattle.diskette.specs.Places.{first_data, copy_one, copy_two}
use Rattle.diskette.specs.declared.Kind.{Kind}
use Rattle.calls.specs.Outcome.{Outcome, outcome}
use Rattle.calls.specs.Numbers.{of_no_kind}
use Rattle.calls.specs.Answers.{number_told}
use Rattle.calls.specs.declared.refusal.Refusal.{Refusal}

-- "data bytes F6; everything before it zero,"
abbrev pub zeros_and_data : Kind → List ℕ
zeros_and_data k = replicate (512 * first_data k) 0 ++ replicate (512 * k.sectors - 512 * first_data k) 0xF6

-- "but for the kind byte and FF FF in each copy"
abbrev pub table_head : ℕ → List ℕ
table_head byte = byte ∷ 0xFF ∷ 0xFF ∷ []

-- the blank volume of a kind
unfoldable pub blank : Kind → List ℕ
blank k = stored (stored (zeros_and_data k) copy_one (table_head k.byte)) (copy_two k) (table_head k.byte)

-- "40: unknown kind byte or wrong length". A refusal alters nothing.
abbrev pub formatted_as : Option Kind → List ℕ → Outcome
formatted_as (Some k) img = cond (eqb (length img) (512 * k.sectors)) (outcome 0 0 (blank k) [] []) (outcome of_no_kind 0 img [] [])
formatted_as None img = outcome of_no_kind 0 img [] []

-- The kind is taken as a whole number. No table comes in, and no buffer.
unfoldable pub formatted : ℕ → List ℕ → Outcome
formatted kind img = formatted_as (named kind) img

-- what the call promises: its answer, and the image after it
pub record Formatted (img : List ℕ) (kind : ℕ) (r : Result Unit Refusal) (after : List ℕ) : Type 0 where
  pub is : outcome (number_told r) 0 after [] [] ≡ formatted kind img
