-- The bytes of a record in two parts, as the code stores them.
use Rattle.std.specs.Prelude.{ℕ, Bool, true, List, ◌∷◌, [], ◌++◌, replicate}
use Rattle.image.specs.Numbers.{digits}
use Rattle.chains.specs.Sums.{bit}

-- bytes 0-3 of a used place
unfoldable pub mark_bytes : ℕ → Bool → List ℕ
mark_bytes access written = bit true ∷ access ∷ bit written ∷ 0 ∷ []

-- bytes 4-15
unfoldable pub number_bytes : ℕ → ℕ → List ℕ
number_bytes slot pointer = digits slot 4 ++ (digits pointer 4 ++ replicate 4 0)
