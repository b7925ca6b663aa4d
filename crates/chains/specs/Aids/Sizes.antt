-- How long a chain may be, and what theorems use of a volume's numbers.
use Rattle.std.specs.Prelude.{ℕ, ◌-◌, ◌≤◌, ◌<◌, Bool, List, leb, length}
use Rattle.chains.specs.Sizes.{clusters_for}

-- "at least the size's clusters": may a file of n bytes have a chain of k clusters? Used through its laws alone, so that another rule would change only these.
unfoldable pub fits : ℕ → ℕ → ℕ → Bool
fits cb n k = leb (clusters_for cb n) k

-- how many clusters a file with the clusters cs lacks to have n bytes
abbrev pub lacking : ℕ → List ℕ → ℕ → ℕ
lacking cb cs n = clusters_for cb n - length cs

-- What theorems use of a volume: the last cluster's number, the bytes of a cluster, and the facts about them. Definitions take the numbers alone.
pub record Geometry : Type 0 where
  pub last : ℕ
  pub cb : ℕ
  pub small : last ≤ 4079
  pub wide : 0 < cb
