-- Texts as the bytes that hold them.
use Rattle.std.specs.Prelude.{ℕ, List, [], ◌∷◌}
use Prim.Native.Char.{code}
use Prim.Native.String.{String, [] as nothing, ◌∷◌ as then}

-- the bytes of a text, one for each character
abbrev pub ascii : String → List ℕ
ascii nothing = []
ascii (then c s) = code c ∷ ascii s
