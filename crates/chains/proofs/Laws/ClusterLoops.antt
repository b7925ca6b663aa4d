-- The loops over the clusters of a volume, from 2 on, as long as c ≤ last: when they start all clusters are left.
use Rattle.std.specs.Prelude.{ℕ, ◌+◌, ◌-◌, Bool, ◌≡◌}
use Rattle.std.proofs.Common.{arith, ap}
use Rattle.search.specs.Search.{lowest}
use Rattle.chains.specs.Sums.{tally}
use Rattle.chains.specs.Values.{value_count}
use Rattle.chains.specs.Aids.Values.{passes_at}

pub lowest_start : (t : ℕ → Bool) (last : ℕ) → lowest t 2 (last + 1 - 2) ≡ lowest t 2 (last - 1)
lowest_start t last = let y : last + 1 - 2 ≡ last - 1 = omega arith in ap (lowest t 2) y

pub count_start : (t : ℕ → Bool) (f : ℕ → ℕ) (last : ℕ) → 0 + tally (passes_at t f) (last + 1 - 2) 2 ≡ value_count t last f
unfolding value_count passes_at
count_start t f last = let y : last + 1 - 2 ≡ last - 1 = omega arith in rw y (omega arith)
