-- The same as a function: the name is split at its first dot, tested and padded.
use Rattle.std.specs.Prelude.{ℕ, Bool, true, false, cond, ◌&&◌, List, [], ◌∷◌, Option, Some, None, eqb, leb, length, replicate}
use Rattle.names.specs.Alphabet.{allowed}
use Rattle.names.specs.Spelling.{dot, space, every, eleven}

-- what stands before the first d in s: all of s where there is none
unfoldable pub before_first : ℕ → List ℕ → List ℕ
before_first d [] = []
before_first d (c ∷ cs) = cond (eqb c d) [] (c ∷ before_first d cs)

-- what stands after the first d in s: nothing where there is none
unfoldable pub after_first : ℕ → List ℕ → List ℕ
after_first d [] = []
after_first d (c ∷ cs) = cond (eqb c d) cs (after_first d cs)

-- the parts keep to the rules: their lengths, and each is good
unfoldable pub fitting : (List ℕ → Bool) → List ℕ → List ℕ → Bool
fitting good base ext = leb 1 (length base) && (leb (length base) 8 && (leb (length ext) 3 && (good base && good ext)))

-- the eleven bytes n of a name that fits: none where it breaks the rules (refusal 42)
abbrev pub spelled_if : Bool → List ℕ → Option (List ℕ)
spelled_if true n = Some n
spelled_if false n = None

-- the answer for a name given by a caller
unfoldable pub name_given : List ℕ → Option (List ℕ)
name_given s = let base = before_first dot s in let ext = after_first dot s in spelled_if (fitting (every allowed) base ext) (eleven base ext)

-- the eleven bytes of a name that was given; spaces where there is none (no rule rests on them then)
abbrev pub name_bytes : Option (List ℕ) → List ℕ
name_bytes (Some n) = n
name_bytes None = replicate 11 space
