-- The answer for a name, once the code has split it.
use Rattle.std.specs.Prelude.{ℕ, Bool, not, List, ◌++◌, map, Option, eqb}
use Rattle.names.specs.Alphabet.{capital}
use Rattle.names.specs.Spelling.{dot, every, filled}
use Rattle.names.specs.Reading.{before_first, after_first, spelled_if, fitting}

-- the answer for two parts, where both are to be good and bytes makes the eleven
abbrev pub spelled_as : (List ℕ → Bool) → (List ℕ → List ℕ → List ℕ) → List ℕ → List ℕ → Option (List ℕ)
spelled_as good bytes base ext = spelled_if (fitting good base ext) (bytes base ext)

-- the answer for s, cut at its first dot
abbrev pub answer : (List ℕ → Bool) → (List ℕ → List ℕ → List ℕ) → List ℕ → Option (List ℕ)
answer good bytes s = spelled_as good bytes (before_first dot s) (after_first dot s)

-- no character of the list is a dot
abbrev pub undotted : List ℕ → Bool
undotted = every (λ (c : ℕ). not (eqb c dot))

-- the eleven bytes of two parts: what is left of a part without what fills it up, in capitals, and then its filler
abbrev pub bytes_by : (List ℕ → List ℕ) → (List ℕ → ℕ) → List ℕ → List ℕ → List ℕ
bytes_by core filler base ext = filled 8 (filler base) (map capital (core base)) ++ filled 3 (filler ext) (map capital (core ext))
