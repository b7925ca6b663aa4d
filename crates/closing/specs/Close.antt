-- "Close takes a stamp, frees the place (all fields zero), and if its record says written (set by a write above 0) sets bit 20
-- and the stamp."
use Rattle.std.specs.Prelude.{ℕ, ◌+◌, cond, List, [], ◌∷◌, ◌≡◌, Option, Some, None}
use Rattle.fields.specs.Fields.{attr_of, with_attr, with_time, with_date}
use Rattle.directory.specs.Slots.{has_bit}
use Rattle.stamps.specs.Stamps.{packed}
use Rattle.stamps.specs.declared.Stamp.{Stamp}
use Rattle.opened.specs.Records.{slot_of, written_of, cleared}
use Rattle.calls.specs.Outcome.{Row, Outcome, outcome, decided}
use Rattle.calls.specs.Numbers.{of_no_kind, unsound, out_of_range, invalid_handle}
use Rattle.calls.specs.Refusals.{not_of_kind, not_sound, bad_stamp, not_live, address_of}
use Rattle.calls.specs.Answers.{Answer, number_told, value_told}

-- an attribute with bit 20 set
unfoldable pub archived : ℕ → ℕ
archived attr = cond (has_bit attr 0x20) attr (attr + 0x20)

-- the entry at a with bit 20 and these words set
unfoldable pub stamped : List ℕ → ℕ → ℕ → ℕ → List ℕ
stamped l a time date = with_date (with_time (with_attr l a (archived (attr_of l a))) a time) a date

-- the same with a stamp's words; a stamp that has none was refused
abbrev pub stamped_by : List ℕ → ℕ → Option (ℕ × ℕ) → List ℕ
stamped_by l a (Some (time, date)) = stamped l a time date
stamped_by l a None = l

abbrev pub close_rows : List ℕ → List ℕ → ℕ → Stamp → List Row
close_rows img t h s =
    (not_of_kind img, of_no_kind)
    ∷ (not_sound img, unsound)
    ∷ (bad_stamp s, out_of_range)
    ∷ (not_live img t h, invalid_handle)
    ∷ []

abbrev pub close_effect : List ℕ → List ℕ → ℕ → Stamp → Outcome
close_effect img t h s = outcome 0 0 (cond (written_of t h) (stamped_by img (address_of img (slot_of t h)) (packed s)) img) (cleared t h) []

unfoldable pub close_outcome : List ℕ → List ℕ → ℕ → Stamp → Outcome
close_outcome img t h s = decided (close_rows img t h s) (close_effect img t h s) img t []

-- what the call promises: its answer r, the image and the table after
pub record Closes (img t : List ℕ) (h : ℕ) (s : Stamp) (r : Answer) (image table : List ℕ) : Type 0 where
  pub is : outcome (number_told r) (value_told r) image table [] ≡ close_outcome img t h s
