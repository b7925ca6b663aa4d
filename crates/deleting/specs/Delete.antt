-- "Delete frees the chain and makes the first byte E5; the entry's other bytes and the data stay."
use Rattle.std.specs.Prelude.{ℕ, List, [], ◌∷◌, ◌≡◌}
use Rattle.diskette.specs.Places.{slot_at}
use Rattle.diskette.specs.declared.Kind.{Kind}
use Rattle.fields.specs.Fields.{with_first}
use Rattle.opened.specs.Places.{is_open}
use Rattle.calls.specs.Outcome.{Row, Outcome, outcome, decided}
use Rattle.calls.specs.Numbers.{of_no_kind, unsound, breaks_rules, file_not_found, access_denied}
use Rattle.calls.specs.Refusals.{the_kind, not_of_kind, not_sound, bad_name, no_file, file_slot, read_only}
use Rattle.freeing.specs.Freed.{chain_freed}
use Rattle.calls.specs.Answers.{Answer, number_told, value_told}

-- s is the file's name
abbrev pub delete_rows : List ℕ → List ℕ → List ℕ → List Row
delete_rows img t s =
    (not_of_kind img, of_no_kind)
    ∷ (not_sound img, unsound)
    ∷ (bad_name s, breaks_rules)
    ∷ (no_file img s, file_not_found)
    ∷ (is_open t (file_slot img s), access_denied)
    ∷ (read_only img (file_slot img s), access_denied)
    ∷ []

-- the image without the file in the slot
abbrev pub erased_in : Kind → List ℕ → ℕ → List ℕ
erased_in k img slot = with_first (chain_freed k img (slot_at k slot)) (slot_at k slot) 0xE5

abbrev pub delete_effect : List ℕ → List ℕ → List ℕ → Outcome
delete_effect img t s = outcome 0 0 (erased_in (the_kind img) img (file_slot img s)) t []

unfoldable pub delete_outcome : List ℕ → List ℕ → List ℕ → Outcome
delete_outcome img t s = decided (delete_rows img t s) (delete_effect img t s) img t []

-- what the call promises: its answer r, and the image after
pub record Deletes (img t s : List ℕ) (r : Answer) (after : List ℕ) : Type 0 where
  pub is : outcome (number_told r) (value_told r) after t [] ≡ delete_outcome img t s
