-- Marks: 0 for a cluster in no chain, 1 in one, 2 in more. One pass over the clusters of all chains, as they are met.
use Rattle.std.specs.Prelude.{ℕ, ◌+◌, min, List, [], ◌∷◌, get_or, set, replicate}

-- cluster c is met once more
unfoldable pub mark : List ℕ → ℕ → List ℕ
mark m c = set m c (min 2 (get_or m c 0 + 1))

-- each of the clusters is met once more
unfoldable pub marks : List ℕ → List ℕ → List ℕ
marks m [] = m
marks m (c ∷ cs) = marks (mark m c) cs

-- the marks of all, from nothing, in a list of size places
unfoldable pub marks_of : ℕ → List ℕ → List ℕ
marks_of size all = marks (replicate size 0) all
