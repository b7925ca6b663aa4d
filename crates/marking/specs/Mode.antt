-- "File mode: function 0 answers the attribute, 1 sets it (bits as for create)."
use Rattle.std.specs.Prelude.{ℕ, cond, ◌&&◌, List, [], ◌∷◌, ◌≡◌, eqb, ltb}
use Rattle.fields.specs.Fields.{attr_of, with_attr}
use Rattle.opened.specs.Places.{is_open}
use Rattle.calls.specs.Outcome.{Row, Outcome, outcome, decided}
use Rattle.calls.specs.Numbers.{of_no_kind, unsound, invalid_function, breaks_rules, file_not_found, access_denied}
use Rattle.calls.specs.Refusals.{not_of_kind, not_sound, bad_name, no_file, file_slot, address_of, bad_attr}
use Rattle.calls.specs.Answers.{Answer, number_told, value_told}

abbrev pub mode_rows : List ℕ → List ℕ → List ℕ → ℕ → ℕ → List Row
mode_rows img t s function attr =
    (not_of_kind img, of_no_kind)
    ∷ (not_sound img, unsound)
    ∷ (ltb 1 function, invalid_function)
    ∷ (bad_name s, breaks_rules)
    ∷ (no_file img s, file_not_found)
    ∷ (eqb function 1 && bad_attr attr, access_denied)
    ∷ (eqb function 1 && is_open t (file_slot img s), access_denied)
    ∷ []

abbrev pub mode_effect : List ℕ → List ℕ → List ℕ → ℕ → ℕ → Outcome
mode_effect img t s function attr =
    let a = address_of img (file_slot img s) in
    cond (eqb function 1) (outcome 0 0 (with_attr img a attr) t []) (outcome 0 (attr_of img a) img t [])

unfoldable pub mode_outcome : List ℕ → List ℕ → List ℕ → ℕ → ℕ → Outcome
mode_outcome img t s function attr = decided (mode_rows img t s function attr) (mode_effect img t s function attr) img t []

-- what the call promises: its answer r, and the image after
pub record Modes (img t s : List ℕ) (function attr : ℕ) (r : Answer) (after : List ℕ) : Type 0 where
  pub is : outcome (number_told r) (value_told r) after t [] ≡ mode_outcome img t s function attr
