-- An image, an open table, a buffer: each is a list of bytes.
use Rattle.std.specs.Prelude.{ℕ, ◌<◌, List, get_or}

-- every element is below 256. (Past the end `get_or` gives 0, so this asks nothing there.)
abbrev pub Bytes : List ℕ → Type 0
Bytes l = (i : ℕ) → get_or l i 0 < 256
