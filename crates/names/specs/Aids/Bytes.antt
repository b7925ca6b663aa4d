-- The eleven bytes of a name, byte by byte.
use Rattle.std.specs.Prelude.{ℕ, ◌-◌, cond, List, ltb, length, get_or}
use Rattle.names.specs.Alphabet.{capital}
use Rattle.names.specs.Spelling.{space}

-- byte i of a part in capitals, and then f
abbrev pub filled_byte : ℕ → List ℕ → ℕ → ℕ
filled_byte f t i = cond (ltb i (length t)) (capital (get_or t i 0)) f

-- byte i of a part in capitals, padded by spaces
abbrev pub padded_byte : List ℕ → ℕ → ℕ
padded_byte t i = filled_byte space t i

-- byte i of the eleven
abbrev pub name_byte : List ℕ → List ℕ → ℕ → ℕ
name_byte base ext i = cond (ltb i 8) (padded_byte base i) (padded_byte ext (i - 8))
