-- The slot of a live place, as the code answers it; and tests that the code makes.
use Rattle.std.specs.Prelude.{ℕ, cond, Bool, ◌&&◌, not, List, eqb, ltb, Option, Some, None}
use Rattle.directory.specs.Slots.{standing_of, is_plain}
use Rattle.opened.specs.Places.{is_live}
use Rattle.opened.specs.Records.{slot_of, used_of}

-- the slot of a live place
unfoldable pub live_slot : List ℕ → ℕ → List ℕ → (ℕ → ℕ) → ℕ → Option ℕ
live_slot t h l way count = cond (is_live t h l way count) (Some (slot_of t h)) None

-- slot s is one of the volume's and holds a plain file
abbrev pub holds_file : List ℕ → (ℕ → ℕ) → ℕ → ℕ → Bool
holds_file l way count s = ltb s count && is_plain (standing_of l (way s))

-- place p is used and names the slot
abbrev pub names_slot : List ℕ → ℕ → ℕ → Bool
names_slot t slot p = used_of t p && eqb (slot_of t p) slot

-- place p is unused
abbrev pub unused_at : List ℕ → ℕ → Bool
unused_at t p = not (used_of t p)
