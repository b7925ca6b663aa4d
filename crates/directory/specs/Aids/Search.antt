-- The tests of a slot that the searches make.
use Rattle.std.specs.Prelude.{ℕ, Bool, List}
use Rattle.directory.specs.Slots.{is_vacant, standing_of}
use Rattle.directory.specs.Search.{is_named}

-- slot s is erased or never used
abbrev pub vacant_slot : List ℕ → (ℕ → ℕ) → ℕ → Bool
vacant_slot l way s = is_vacant (standing_of l (way s))

-- slot s holds the plain file of that name
abbrev pub named_slot : List ℕ → (ℕ → ℕ) → List ℕ → ℕ → Bool
named_slot l way name s = is_named l (way s) name
