-- Checksums of names, and the marks of those that were met. Files with the same name have the same
-- checksum, so that only where its mark is set the names themselves must be compared.
use Rattle.std.specs.Prelude.{ℕ, ◌+◌, ◌*◌, ◌%◌, ◌<◌, Bool, true, false, List, ◌≡◌, length, get_or}
use Rattle.std.specs.List.{fold}
use Rattle.fields.specs.Fields.{name_of}
use Rattle.directory.specs.Slots.{PlainAt}
use Rattle.slotcheck.specs.Aids.Slots.{name_twice_slot, bad_slot_by}

abbrev pub with_byte : ℕ → ℕ → ℕ
with_byte sum byte = (11 * sum + byte) % 256

-- the bytes of a name, each added to the sum of those before
unfoldable pub checksum : List ℕ → ℕ
checksum name = fold with_byte 0 name

-- the marks m: each plain file in a slot below s has the mark of its checksum set
pub record NamesMet (l : List ℕ) (way : ℕ → ℕ) (s : ℕ) (m : List Bool) : Type 0 where
  pub long : length m ≡ 256
  pub marked : (t : ℕ) → t < s → PlainAt l (way t) → get_or m (checksum (name_of l (way t))) false ≡ true

-- what the code promises of a slot's name: its answer r, and the marks with that of this slot
pub record NameTold (l : List ℕ) (way : ℕ → ℕ) (s : ℕ) (r : Bool) (m : List Bool) : Type 0 where
  pub is : r ≡ name_twice_slot l way s
  pub met : NamesMet l way (s + 1) m

-- what it promises of a slot: its answer r, and unless the slot is bad the marks
pub record SlotTold (l : List ℕ) (way : ℕ → ℕ) (s : ℕ) (never label r : Bool) (m : List Bool) : Type 0 where
  pub is : r ≡ bad_slot_by l way s never label
  pub met : r ≡ false → NamesMet l way (s + 1) m
