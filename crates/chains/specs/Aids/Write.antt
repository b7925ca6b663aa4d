-- Bytes put over others.
use Rattle.std.specs.Prelude.{ℕ, ◌+◌, List, ◌++◌, length, take, drop}

-- bs over xs, from byte pos on
unfoldable pub splice : List ℕ → ℕ → List ℕ → List ℕ
splice xs pos bs = take pos xs ++ (bs ++ drop (pos + length bs) xs)
