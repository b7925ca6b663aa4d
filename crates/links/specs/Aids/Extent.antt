-- How far a chain goes.
use Rattle.std.specs.Prelude.{ℕ, ◌+◌, List, length}
use Rattle.chains.specs.Aids.Lists.{last_of}
use Rattle.links.specs.Linked.{end_of}
use Rattle.links.specs.declared.Extent.{Extent}

-- how many clusters it has, and which is the last, 0 where it has none
abbrev pub extent_of : List ℕ → Extent
extent_of cs = record { clusters = length cs; end = end_of cs }

-- the same on the way: n clusters were met, e is the last of them, and cs are still to come
abbrev pub extent_from : ℕ → ℕ → List ℕ → Extent
extent_from n e cs = record { clusters = n + length cs; end = last_of e cs }
