-- A file's name as the listing prints it.
use Rattle.std.specs.Prelude.{ℕ, Bool, cond, List, [], ◌∷◌, ◌++◌, map, eqb}
use Rattle.image.specs.Store.{part}
use Rattle.names.specs.Alphabet.{plain}
use Rattle.names.specs.Spelling.{dot, space, every}

-- nothing but spaces
unfoldable pub only_spaces : List ℕ → Bool
only_spaces s = every (λ (c : ℕ). eqb c space) s

-- trailing spaces are dropped
unfoldable pub trimmed : List ℕ → List ℕ
trimmed [] = []
trimmed (c ∷ cs) = cond (only_spaces (c ∷ cs)) [] (c ∷ trimmed cs)

-- any other name byte but capitals, digits and the signs prints `?`
unfoldable pub shown : ℕ → ℕ
shown c = cond (plain c) c 0x3F

-- name or extension
unfoldable pub part_text : List ℕ → List ℕ
part_text s = map shown (trimmed s)

-- the dot stands only before an extension
unfoldable pub ext_text : List ℕ → List ℕ
ext_text s = cond (only_spaces s) [] (dot ∷ part_text s)

-- name 0-7, extension 8-10
unfoldable pub name_text : List ℕ → List ℕ
name_text name = part_text (part name 0 8) ++ ext_text (part name 8 3)
