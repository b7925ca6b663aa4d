-- "entry answers 'none' for a slot that is out of range, erased or never used, else, for the label too, the name bytes,
-- attribute, time and date words, start and size as stored." It refuses only by 40.
use Rattle.std.specs.Prelude.{ℕ, cond, ◌||◌, List, ◌≡◌, leb, Option, Some, None, Result, Ok, Err}
use Rattle.diskette.specs.Images.{kind_of_image}
use Rattle.diskette.specs.Places.{root_entries, slot_at}
use Rattle.diskette.specs.declared.Kind.{Kind}
use Rattle.fields.specs.Fields.{name_of, attr_of, time_of, date_of, start_of, size_of}
use Rattle.directory.specs.Slots.{standing_of, is_vacant}
use Rattle.calls.specs.declared.refusal.Refusal.{Refusal}
use Rattle.calls.specs.declared.refusal.Refusal.TheVariants.{OfNoKind}
use Rattle.entries.specs.declared.EntryFields.{EntryFields}

-- the fields of the entry at byte a, as stored
abbrev pub as_stored : List ℕ → ℕ → EntryFields
as_stored l a = record {
  name = name_of l a;
  attr = attr_of l a;
  time = time_of l a;
  date = date_of l a;
  start = start_of l a;
  size = size_of l a;
}

-- "out of range, erased or never used"; "40: image not of a kind"
abbrev pub on_kind : Option Kind → List ℕ → ℕ → Result (Option EntryFields) Refusal
on_kind (Some k) l s = Ok (cond (leb (root_entries k) s || is_vacant (standing_of l (slot_at k s))) None (Some (as_stored l (slot_at k s))))
on_kind None l s = Err OfNoKind

unfoldable pub entry_told : List ℕ → ℕ → Result (Option EntryFields) Refusal
entry_told img slot = on_kind (kind_of_image img) img slot

-- what the call promises of its answer
pub record Told (img : List ℕ) (slot : ℕ) (answer : Result (Option EntryFields) Refusal) : Type 0 where
  pub is : answer ≡ entry_told img slot
