-- The characters of a name: letters (small ones become capitals), digits and the signs $ & # @ ! % ' ( ) - { } _.
use Rattle.std.specs.Prelude.{ℕ, ◌-◌, Bool, false, cond, ◌&&◌, ◌||◌, List, [], ◌∷◌, eqb, leb}

-- c is one of the characters from low to high
abbrev pub within : ℕ → ℕ → ℕ → Bool
within low high c = leb low c && leb c high

-- A to Z
abbrev pub large_letter : ℕ → Bool
large_letter = within 0x41 0x5A

-- a to z
abbrev pub small_letter : ℕ → Bool
small_letter = within 0x61 0x7A

-- 0 to 9
abbrev pub digit : ℕ → Bool
digit = within 0x30 0x39

-- $ & # @ ! % ' ( ) - { } _
abbrev pub signs : List ℕ
signs = 0x24 ∷ 0x26 ∷ 0x23 ∷ 0x40 ∷ 0x21 ∷ 0x25 ∷ 0x27 ∷ 0x28 ∷ 0x29 ∷ 0x2D ∷ 0x7B ∷ 0x7D ∷ 0x5F ∷ []

-- c is one of the list
abbrev pub among : List ℕ → ℕ → Bool
among [] c = false
among (x ∷ xs) c = eqb c x || among xs c

-- capitals, digits and the signs: what the eleven bytes are made of, but for padding
unfoldable pub plain : ℕ → Bool
plain c = large_letter c || (digit c || among signs c)

-- what a caller may write
unfoldable pub allowed : ℕ → Bool
allowed c = small_letter c || plain c

-- small letters become capitals, others stay
unfoldable pub capital : ℕ → ℕ
capital c = cond (small_letter c) (c - 32) c
