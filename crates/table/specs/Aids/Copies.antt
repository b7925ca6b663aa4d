-- What theorems ask of the copies of the table in an image.
use Rattle.std.specs.Prelude.{ℕ, ◌+◌, ◌≤◌, ◌<◌, List, ◌≡◌, length, get_or}
use Rattle.table.specs.Entries.{word_at}

-- each copy holds the whole word of entry n: copy 1 before copy 2, copy 2 before the end
pub record Reaches (second : ℕ) (l : List ℕ) (n : ℕ) : Type 0 where
  pub low : word_at 512 n + 2 ≤ second
  pub high : word_at second n + 2 ≤ length l

-- the copies, of size bytes each, are the same
abbrev pub Agree : ℕ → ℕ → List ℕ → Type 0
Agree second size l = (j : ℕ) → j < size → get_or l (512 + j) 0 ≡ get_or l (second + j) 0
