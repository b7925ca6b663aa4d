-- Finding 4 as the code searches for it, at slot s of a directory; way takes a slot to the byte at which its entry starts.
use Rattle.std.specs.Prelude.{ℕ, zero, suc, Bool, true, false, ◌&&◌, ◌||◌, not, List, eqb, get_or}
use Rattle.search.specs.Search.{is_found}
use Rattle.fields.specs.Fields.{name_of, attr_of}
use Rattle.directory.specs.Slots.{has_bit, standing_of, is_plain}
use Rattle.directory.specs.Search.{slot_named}
use Rattle.directory.specs.declared.Standing.{Standing}
use Rattle.directory.specs.declared.Standing.TheVariants.{NeverUsed, Erased, Label, Plain}

-- does any number below s pass?
unfoldable pub any_below : (ℕ → Bool) → ℕ → Bool
any_below p zero = false
any_below p (suc s) = any_below p s || p s

unfoldable pub never_used_slot : List ℕ → (ℕ → ℕ) → ℕ → Bool
never_used_slot l way s = eqb (get_or l (way s) 0) 0

abbrev pub is_label : Standing → Bool
is_label NeverUsed = false
is_label Erased = false
is_label Label = true
is_label Plain = false

abbrev pub is_live_entry : Standing → Bool
is_live_entry NeverUsed = false
is_live_entry Erased = false
is_live_entry Label = true
is_live_entry Plain = true

unfoldable pub label_slot : List ℕ → (ℕ → ℕ) → ℕ → Bool
label_slot l way s = is_label (standing_of l (way s))

-- a first byte 2E, or an attribute with bit 10, 40 or 80
unfoldable pub strange : ℕ → ℕ → Bool
strange first attr = eqb first 0x2E || (has_bit attr 0x10 || (has_bit attr 0x40 || has_bit attr 0x80))

unfoldable pub strange_slot : List ℕ → (ℕ → ℕ) → ℕ → Bool
strange_slot l way s = let a = way s in is_live_entry (standing_of l a) && strange (get_or l a 0) (attr_of l a)

-- a plain file whose name one in a lower slot has
unfoldable pub name_twice_slot : List ℕ → (ℕ → ℕ) → ℕ → Bool
name_twice_slot l way s = let a = way s in is_plain (standing_of l a) && is_found (slot_named l way s (name_of l a))

-- the four together; never and label say what was met below
unfoldable pub bad_slot_by : List ℕ → (ℕ → ℕ) → ℕ → Bool → Bool → Bool
bad_slot_by l way s never label =
    (not (never_used_slot l way s) && never)
    || (strange_slot l way s || ((label_slot l way s && label) || name_twice_slot l way s))

unfoldable pub bad_slot_at : List ℕ → (ℕ → ℕ) → ℕ → Bool
bad_slot_at l way s = bad_slot_by l way s (any_below (never_used_slot l way) s) (any_below (label_slot l way) s)
