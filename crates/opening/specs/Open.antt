-- "Open takes the lowest unused place, pointer 0. Hidden and system files open too."
use Rattle.std.specs.Prelude.{ℕ, false, ◌&&◌, List, [], ◌∷◌, ◌≡◌, ltb}
use Rattle.opened.specs.Records.{with_record}
use Rattle.calls.specs.Outcome.{Row, Outcome, outcome, decided}
use Rattle.calls.specs.Numbers.{of_no_kind, unsound, invalid_access, breaks_rules, file_not_found, access_denied, too_many_open}
use Rattle.calls.specs.Refusals.{not_of_kind, not_sound, bad_name, no_file, file_slot, read_only, no_place, free_place}
use Rattle.calls.specs.Answers.{Answer, number_told, value_told}

abbrev pub open_rows : List ℕ → List ℕ → List ℕ → ℕ → List Row
open_rows img t s access =
    (not_of_kind img, of_no_kind)
    ∷ (not_sound img, unsound)
    ∷ (ltb 2 access, invalid_access)
    ∷ (bad_name s, breaks_rules)
    ∷ (no_file img s, file_not_found)
    ∷ (ltb 0 access && read_only img (file_slot img s), access_denied)
    ∷ (no_place t, too_many_open)
    ∷ []

abbrev pub open_effect : List ℕ → List ℕ → List ℕ → ℕ → Outcome
open_effect img t s access = outcome 0 (free_place t) img (with_record t (free_place t) access (file_slot img s) 0 false) []

unfoldable pub open_outcome : List ℕ → List ℕ → List ℕ → ℕ → Outcome
open_outcome img t s access = decided (open_rows img t s access) (open_effect img t s access) img t []

-- what the call promises: its answer r, and the table after
pub record Opens (img t s : List ℕ) (access : ℕ) (r : Answer) (after : List ℕ) : Type 0 where
  pub is : outcome (number_told r) (value_told r) img after [] ≡ open_outcome img t s access
