-- Sums over a list, and over the clusters of a volume.
use Rattle.std.specs.Prelude.{ℕ, ◌+◌, ◌-◌, List, [], ◌∷◌}
use Rattle.chains.specs.Sums.{sum}

-- the sum of g i over the list
unfoldable pub sum_over : List ℕ → (ℕ → ℕ) → ℕ
sum_over [] g = 0
sum_over (i ∷ is) g = g i + sum_over is g

-- the sum of g c over the clusters 2 .. last
abbrev pub sum_clusters : ℕ → (ℕ → ℕ) → ℕ
sum_clusters last g = sum (last - 1) (λ i. g (i + 2))
