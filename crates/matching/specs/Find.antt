-- "A search takes a pattern, a slot to begin at and an attribute mask, and answers the slot of the first plain file at or after it
-- that matches." It alters nothing.
use Rattle.std.specs.Prelude.{ℕ, ◌-◌, Bool, true, not, ◌&&◌, ◌||◌, List, [], ◌∷◌, ◌≡◌, Option, is_some}
use Rattle.names.specs.Reading.{name_bytes}
use Rattle.search.specs.Search.{lowest, is_found}
use Rattle.diskette.specs.Places.{root_entries, slot_at}
use Rattle.fields.specs.Fields.{name_of, attr_of}
use Rattle.patterns.specs.Patterns.{pattern_given, matches}
use Rattle.directory.specs.Slots.{has_bit, PlainAt, standing_of, is_plain}
use Rattle.calls.specs.Outcome.{Row, Outcome, outcome, decided}
use Rattle.calls.specs.Numbers.{of_no_kind, unsound, breaks_rules, no_more_files}
use Rattle.calls.specs.Refusals.{the_kind, not_of_kind, not_sound, place_found}
use Rattle.calls.specs.Answers.{Answer, number_told, value_told}

-- ---- an entry that matches

-- the file does not have the bit of worth b, or the mask has it too
abbrev pub bit_shows : ℕ → ℕ → ℕ → Bool
bit_shows mask attr b = not (has_bit attr b) || has_bit mask b

-- "Hidden and system files show only if the mask has their bits; read-only and archive never matter"
unfoldable pub shown_by : ℕ → ℕ → Bool
shown_by mask attr = bit_shows mask attr 0x02 && bit_shows mask attr 0x04

-- the entry at byte a is a plain file that shows and whose name matches
unfoldable pub is_match : List ℕ → ℕ → List ℕ → ℕ → Bool
is_match l a pattern mask = is_plain (standing_of l a) && (shown_by mask (attr_of l a) && matches pattern (name_of l a))

-- the same in words
pub record MatchAt (l : List ℕ) (a : ℕ) (pattern : List ℕ) (mask : ℕ) : Type 0 where
  pub plain : PlainAt l a
  pub hidden : has_bit (attr_of l a) 0x02 ≡ true → has_bit mask 0x02 ≡ true
  pub system : has_bit (attr_of l a) 0x04 ≡ true → has_bit mask 0x04 ≡ true
  pub name : matches pattern (name_of l a) ≡ true

-- "the first .. at or after it": in a directory of count slots; its way takes a slot to the byte at which its entry starts
unfoldable pub match_from : List ℕ → (ℕ → ℕ) → ℕ → List ℕ → ℕ → ℕ → Option ℕ
match_from l way count pattern mask from = lowest (λ s. is_match l (way s) pattern mask) from (count - from)

-- ---- the call

-- "42 for a bad pattern"
abbrev pub bad_pattern : List ℕ → Bool
bad_pattern s = not (is_some (pattern_given s))

-- in the root, by the pattern that a caller gives
unfoldable pub match_found : List ℕ → List ℕ → ℕ → ℕ → Option ℕ
match_found img s from mask = match_from img (slot_at (the_kind img)) (root_entries (the_kind img)) (name_bytes (pattern_given s)) mask from

-- "18 (no more files)"
abbrev pub no_match : List ℕ → List ℕ → ℕ → ℕ → Bool
no_match img s from mask = not (is_found (match_found img s from mask))

abbrev pub find_rows : List ℕ → List ℕ → ℕ → ℕ → List Row
find_rows img s from mask =
    (not_of_kind img, of_no_kind)
    ∷ (not_sound img, unsound)
    ∷ (bad_pattern s, breaks_rules)
    ∷ (no_match img s from mask, no_more_files)
    ∷ []

-- its value is the slot; no table and no buffer come in
abbrev pub find_effect : List ℕ → List ℕ → ℕ → ℕ → Outcome
find_effect img s from mask = outcome 0 (place_found (match_found img s from mask)) img [] []

unfoldable pub find_outcome : List ℕ → List ℕ → ℕ → ℕ → Outcome
find_outcome img s from mask = decided (find_rows img s from mask) (find_effect img s from mask) img [] []

-- what the call promises: its answer r
pub record Finds (img s : List ℕ) (from mask : ℕ) (r : Answer) : Type 0 where
  pub is : outcome (number_told r) (value_told r) img [] [] ≡ find_outcome img s from mask
