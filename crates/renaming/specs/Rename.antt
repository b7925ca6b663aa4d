-- "Rename changes the 11 name bytes only."
use Rattle.std.specs.Prelude.{ℕ, not, List, [], ◌∷◌, ◌≡◌}
use Rattle.fields.specs.Fields.{with_name}
use Rattle.names.specs.Reading.{name_given, name_bytes}
use Rattle.opened.specs.Places.{is_open}
use Rattle.calls.specs.Outcome.{Row, Outcome, outcome, decided}
use Rattle.calls.specs.Numbers.{of_no_kind, unsound, breaks_rules, file_not_found, access_denied}
use Rattle.calls.specs.Refusals.{not_of_kind, not_sound, bad_name, no_file, file_slot, address_of, read_only}
use Rattle.calls.specs.Answers.{Answer, number_told, value_told}

-- s is the file's name, n the new one
abbrev pub rename_rows : List ℕ → List ℕ → List ℕ → List ℕ → List Row
rename_rows img t s n =
    (not_of_kind img, of_no_kind)
    ∷ (not_sound img, unsound)
    ∷ (bad_name s, breaks_rules)
    ∷ (bad_name n, breaks_rules)
    ∷ (no_file img s, file_not_found)
    ∷ (is_open t (file_slot img s), access_denied)
    ∷ (read_only img (file_slot img s), access_denied)
    ∷ (not (no_file img n), access_denied)
    ∷ []

abbrev pub rename_effect : List ℕ → List ℕ → List ℕ → List ℕ → Outcome
rename_effect img t s n = outcome 0 0 (with_name img (address_of img (file_slot img s)) (name_bytes (name_given n))) t []

unfoldable pub rename_outcome : List ℕ → List ℕ → List ℕ → List ℕ → Outcome
rename_outcome img t s n = decided (rename_rows img t s n) (rename_effect img t s n) img t []

-- what the call promises: its answer r, and the image after
pub record Renames (img t s n : List ℕ) (r : Answer) (after : List ℕ) : Type 0 where
  pub is : outcome (number_told r) (value_told r) after t [] ≡ rename_outcome img t s n
