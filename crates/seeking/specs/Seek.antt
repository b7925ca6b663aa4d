-- "Seek: signed 32-bit offset from 0, from the pointer or from the size (methods 0, 1, 2). It moves that place's pointer and
-- nothing else, and answers it."
use Rattle.std.specs.Prelude.{ℕ, Bool, cond, not, List, [], ◌∷◌, ◌≡◌, eqb, ltb, ℤ, Option, Some, None, Ok, Err}
use Rattle.fields.specs.Fields.{size_of}
use Rattle.offset.specs.Offset.{moved_by}
use Rattle.opened.specs.Records.{slot_of, pointer_of, with_pointer}
use Rattle.calls.specs.declared.refusal.Refusal.TheVariants.{InvalidFunction}
use Rattle.calls.specs.Outcome.{Row, Outcome, outcome, decided}
use Rattle.calls.specs.Numbers.{of_no_kind, unsound, invalid_function, invalid_handle}
use Rattle.calls.specs.Refusals.{not_of_kind, not_sound, not_live, address_of}
use Rattle.calls.specs.Answers.{Answer, number_told, value_told}

-- from where the offset counts
unfoldable pub seek_base : List ℕ → List ℕ → ℕ → ℕ → ℕ
seek_base img t h method = cond (eqb method 0) 0 (cond (eqb method 1) (pointer_of t h) (size_of img (address_of img (slot_of t h))))

-- where it leads
abbrev pub seek_moved : List ℕ → List ℕ → ℕ → ℕ → ℤ → Option ℕ
seek_moved img t h method offset = moved_by (seek_base img t h method) offset

-- what it answers: the pointer; refused by 1 where it leads nowhere
abbrev pub answer_of : Option ℕ → Answer
answer_of (Some v) = Ok v
answer_of None = Err InvalidFunction

-- 1: seek result below 0 or above 4,294,967,295
abbrev pub is_beyond : Option ℕ → Bool
is_beyond m = not (eqb (number_told (answer_of m)) 0)

abbrev pub seek_rows : List ℕ → List ℕ → ℕ → ℕ → ℤ → List Row
seek_rows img t h method offset =
    (not_of_kind img, of_no_kind)
    ∷ (not_sound img, unsound)
    ∷ (ltb 2 method, invalid_function)
    ∷ (not_live img t h, invalid_handle)
    ∷ (is_beyond (seek_moved img t h method offset), invalid_function)
    ∷ []

abbrev pub seek_effect : List ℕ → List ℕ → ℕ → ℕ → ℤ → Outcome
seek_effect img t h method offset = let v = value_told (answer_of (seek_moved img t h method offset)) in outcome 0 v img (with_pointer t h v) []

unfoldable pub seek_outcome : List ℕ → List ℕ → ℕ → ℕ → ℤ → Outcome
seek_outcome img t h method offset = decided (seek_rows img t h method offset) (seek_effect img t h method offset) img t []

-- what the call promises: its answer r, and the table after
pub record Seeks (img t : List ℕ) (h method : ℕ) (offset : ℤ) (r : Answer) (after : List ℕ) : Type 0 where
  pub is : outcome (number_told r) (value_told r) img after [] ≡ seek_outcome img t h method offset
