-- Files that show and such as don't, by their attribute and the mask.
use Rattle.std.specs.Prelude.{ℕ, true, false, [], ◌∷◌, map, ◌≡◌, refl}
use Rattle.matching.specs.Find.{shown_by}

-- hidden and system: both bits are needed, and no other helps
pub both_needed : map (λ (mask : ℕ). shown_by mask 0x06) (0x00 ∷ 0x02 ∷ 0x04 ∷ 0xFFFFFFF9 ∷ 0x06 ∷ 0xFFFFFFFF ∷ [])
    ≡ false ∷ false ∷ false ∷ false ∷ true ∷ true ∷ []
unfolding shown_by
both_needed = refl

-- neither of them; read-only and archive don't matter
pub none_needed : map (shown_by 0x00) (0x00 ∷ 0x01 ∷ 0x20 ∷ 0x21 ∷ []) ≡ true ∷ true ∷ true ∷ true ∷ []
unfolding shown_by
none_needed = refl
