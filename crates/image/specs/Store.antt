-- The one way in which bytes change: a run of bytes is stored at a place. And a run of bytes read.
use Rattle.std.specs.Prelude.{ℕ, ◌+◌, List, [], ◌∷◌, set, take, drop}

-- l with the bytes s stored from byte at on; what would stand past the end of l is not stored
unfoldable pub stored : List ℕ → ℕ → List ℕ → List ℕ
stored l at [] = l
stored l at (x ∷ xs) = stored (set l at x) (at + 1) xs

-- the n bytes of l from byte at on
abbrev pub part : List ℕ → ℕ → ℕ → List ℕ
part l at n = take n (drop at l)
