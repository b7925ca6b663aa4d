-- Document 01, "Refusal numbers, in order of test": each row's "when" as a test of what came in.
use Rattle.std.specs.Prelude.{ℕ, ◌+◌, ◌*◌, ◌/◌, ◌%◌, Bool, true, false, not, List, eqb, Option, Some, None, is_none}
use Rattle.diskette.specs.Images.{kind_of_image}
use Rattle.diskette.specs.Kinds.{kind_fe}
use Rattle.diskette.specs.Places.{root_entries, slot_at}
use Rattle.diskette.specs.declared.Kind.{Kind}
use Rattle.search.specs.Search.{is_found}
use Rattle.fields.specs.Fields.{attr_of}
use Rattle.directory.specs.Slots.{has_bit}
use Rattle.directory.specs.Search.{lowest_vacant, slot_named}
use Rattle.names.specs.Reading.{name_given, name_bytes}
use Rattle.stamps.specs.Stamps.{packed}
use Rattle.stamps.specs.declared.Stamp.{Stamp}
use Rattle.opened.specs.Places.{is_live, lowest_unused}
use Rattle.sound.specs.Judged.{is_sound}
use Rattle.calls.specs.Numbers.{out_of_range}

-- ---- what a search found, as a number (0 where there is nothing; no rule rests on it then)

abbrev pub place_found : Option ℕ → ℕ
place_found (Some i) = i
place_found None = 0

-- ---- the volume

abbrev pub is_unknown : Option Kind → Bool
is_unknown (Some k) = false
is_unknown None = true

-- the kind, where there is one
abbrev pub kind_found : Option Kind → Kind
kind_found (Some k) = k
kind_found None = kind_fe

abbrev pub the_kind : List ℕ → Kind
the_kind img = kind_found (kind_of_image img)

-- 40: image not of a kind
abbrev pub not_of_kind : List ℕ → Bool
not_of_kind img = is_unknown (kind_of_image img)

-- 41: volume not sound
abbrev pub not_sound : List ℕ → Bool
not_sound img = not (is_sound img)

-- ---- names, stamps, numbers

-- 42: a name breaks the rules
abbrev pub bad_name : List ℕ → Bool
bad_name s = is_none (name_given s)

-- a stamp's words by this paper's number: 43, or 0 where they are no refusal
abbrev pub stamp_number : Option (ℕ × ℕ) → ℕ
stamp_number (Some (time, date)) = 0
stamp_number None = out_of_range

-- 43: a stamp out of its ranges
abbrev pub bad_stamp : Stamp → Bool
bad_stamp s = not (eqb (stamp_number (packed s)) 0)

-- 5: attribute bit not allowed: a number with another bit than 01, 02, 04 and 20
unfoldable pub bad_attr : ℕ → Bool
bad_attr a = not (eqb a (a % 8 + a / 32 % 2 * 32))

-- ---- files and places

-- the slot of the plain file that a caller's name means
unfoldable pub file_found : List ℕ → List ℕ → Option ℕ
file_found img s = slot_named img (slot_at (the_kind img)) (root_entries (the_kind img)) (name_bytes (name_given s))

-- 2: no such plain file
abbrev pub no_file : List ℕ → List ℕ → Bool
no_file img s = not (is_found (file_found img s))

abbrev pub file_slot : List ℕ → List ℕ → ℕ
file_slot img s = place_found (file_found img s)

-- the address of the entry in a slot
abbrev pub address_of : List ℕ → ℕ → ℕ
address_of img s = slot_at (the_kind img) s

-- 5: read-only
unfoldable pub read_only : List ℕ → ℕ → Bool
read_only img slot = has_bit (attr_of img (address_of img slot)) 0x01

-- 6: handle not live
unfoldable pub not_live : List ℕ → List ℕ → ℕ → Bool
not_live img t h = not (is_live t h img (slot_at (the_kind img)) (root_entries (the_kind img)))

-- 4: no unused place
abbrev pub no_place : List ℕ → Bool
no_place t = not (is_found (lowest_unused t))

abbrev pub free_place : List ℕ → ℕ
free_place t = place_found (lowest_unused t)

-- the lowest erased or never-used slot
unfoldable pub slot_for_new : List ℕ → Option ℕ
slot_for_new img = lowest_vacant img (slot_at (the_kind img)) (root_entries (the_kind img))
