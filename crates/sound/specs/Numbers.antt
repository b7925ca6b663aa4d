-- The findings by their numbers: what check's error says, "the first with its place".
use Rattle.std.specs.Prelude.{ℕ, Result, Err}
use Rattle.sound.specs.declared.Counts.{Counts}
use Rattle.sound.specs.declared.Finding.{Finding}
use Rattle.sound.specs.declared.Finding.TheVariants.{OfNoKind, CopiesDiffer, BadValue, BadEntry, WrongChain, SharedCluster, LostCluster}

-- its number in the order of the findings
abbrev pub number_of : Finding → ℕ
number_of OfNoKind = 1
number_of (CopiesDiffer j) = 2
number_of (BadValue c) = 3
number_of (BadEntry s) = 4
number_of (WrongChain s) = 5
number_of (SharedCluster c) = 6
number_of (LostCluster c) = 7

-- where it holds: an offset in the copies, a cluster or a slot; finding 1 has place 0
abbrev pub place_of : Finding → ℕ
place_of OfNoKind = 0
place_of (CopiesDiffer j) = j
place_of (BadValue c) = c
place_of (BadEntry s) = s
place_of (WrongChain s) = s
place_of (SharedCluster c) = c
place_of (LostCluster c) = c

-- check answers that finding at the place p
abbrev pub found : (ℕ → Finding) → ℕ → Result Counts Finding
found finding p = Err (finding p)
