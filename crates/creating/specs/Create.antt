-- "Create takes name, attribute (bits 01, 02, 04, 20 only) and stamp. A file of that name is emptied and its clusters freed;
-- else the lowest erased or never-used slot is taken. Entry: name, attribute, zero reserved bytes, stamp, start 0, size 0.
-- Opened with access 2, even if marked read-only."
use Rattle.std.specs.Prelude.{ℕ, false, cond, ◌&&◌, not, List, [], ◌∷◌, ◌≡◌, Option, Some, None}
use Rattle.diskette.specs.Places.{slot_at}
use Rattle.diskette.specs.declared.Kind.{Kind}
use Rattle.search.specs.Search.{is_found}
use Rattle.fields.specs.Fields.{with_entry}
use Rattle.names.specs.Reading.{name_given, name_bytes}
use Rattle.stamps.specs.Stamps.{packed}
use Rattle.stamps.specs.declared.Stamp.{Stamp}
use Rattle.opened.specs.Places.{is_open}
use Rattle.opened.specs.Records.{with_record}
use Rattle.calls.specs.Outcome.{Row, Outcome, outcome, decided}
use Rattle.calls.specs.Numbers.{of_no_kind, unsound, breaks_rules, out_of_range, access_denied, too_many_open}
use Rattle.calls.specs.Refusals.{place_found, the_kind, not_of_kind, not_sound, bad_name, bad_stamp, bad_attr, no_file, file_slot, read_only, slot_for_new, no_place, free_place, address_of}
use Rattle.freeing.specs.Freed.{chain_freed}
use Rattle.calls.specs.Answers.{Answer, number_told, value_told}

-- s is the name; the rows of an existing file, then the one of a new one
abbrev pub create_rows : List ℕ → List ℕ → List ℕ → ℕ → Stamp → List Row
create_rows img t s attr stamp =
    (not_of_kind img, of_no_kind)
    ∷ (not_sound img, unsound)
    ∷ (bad_name s, breaks_rules)
    ∷ (bad_stamp stamp, out_of_range)
    ∷ (bad_attr attr, access_denied)
    ∷ (not (no_file img s) && is_open t (file_slot img s), access_denied)
    ∷ (not (no_file img s) && read_only img (file_slot img s), access_denied)
    ∷ (no_file img s && not (is_found (slot_for_new img)), access_denied)
    ∷ (no_place t, too_many_open)
    ∷ []

-- an empty file in the slot of the image l, and the lowest unused place taken for it
abbrev pub made : List ℕ → List ℕ → Kind → ℕ → List ℕ → ℕ → ℕ → ℕ → Outcome
made l t k slot name attr time date =
    outcome 0 (free_place t) (with_entry l (slot_at k slot) name attr time date 0 0) (with_record t (free_place t) 2 slot 0 false) []

-- the same with a stamp's words (no rule rests on one that is out of its ranges)
abbrev pub made_by : List ℕ → List ℕ → Kind → ℕ → List ℕ → ℕ → Option (ℕ × ℕ) → Outcome
made_by l t k slot name attr (Some (time, date)) = made l t k slot name attr time date
made_by l t k slot name attr None = made l t k slot name attr 0 0

abbrev pub create_effect : List ℕ → List ℕ → List ℕ → ℕ → Stamp → Outcome
create_effect img t s attr stamp =
    let k = the_kind img in
    cond (no_file img s) (made_by img t k (place_found (slot_for_new img)) (name_bytes (name_given s)) attr (packed stamp))
    (made_by (chain_freed k img (address_of img (file_slot img s))) t k (file_slot img s) (name_bytes (name_given s)) attr (packed stamp))

unfoldable pub create_outcome : List ℕ → List ℕ → List ℕ → ℕ → Stamp → Outcome
create_outcome img t s attr stamp = decided (create_rows img t s attr stamp) (create_effect img t s attr stamp) img t []

-- what the call promises: its answer r, the image and the table after
pub record Creates (img t s : List ℕ) (attr : ℕ) (stamp : Stamp) (r : Answer) (after table : List ℕ) : Type 0 where
  pub is : outcome (number_told r) (value_told r) after table [] ≡ create_outcome img t s attr stamp
