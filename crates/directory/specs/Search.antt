-- A slot found in a directory of count slots; way takes a slot to the byte at which its entry starts.
use Rattle.std.specs.Prelude.{ℕ, zero, suc, ◌+◌, Bool, true, ◌&&◌, List, eqb, get_or, Option}
use Rattle.search.specs.Search.{lowest}
use Rattle.fields.specs.Fields.{name_of}
use Rattle.directory.specs.Slots.{standing_of, is_vacant, is_plain}

-- the n bytes of x and of y from byte i on are the same
unfoldable pub same_from : List ℕ → List ℕ → ℕ → ℕ → Bool
same_from x y i zero = true
same_from x y i (suc n) = eqb (get_or x i 0) (get_or y i 0) && same_from x y (i + 1) n

-- the entry at a is the plain file of that name, compared on all 11 bytes
abbrev pub is_named : List ℕ → ℕ → List ℕ → Bool
is_named l a name = is_plain (standing_of l a) && same_from (name_of l a) name 0 11

-- the lowest erased or never-used slot
unfoldable pub lowest_vacant : List ℕ → (ℕ → ℕ) → ℕ → Option ℕ
lowest_vacant l way count = lowest (λ s. is_vacant (standing_of l (way s))) 0 count

-- the slot of the plain file with these 11 name bytes
unfoldable pub slot_named : List ℕ → (ℕ → ℕ) → ℕ → List ℕ → Option ℕ
slot_named l way count name = lowest (λ s. is_named l (way s) name) 0 count
