-- How many clusters a size asks for.
use Rattle.std.specs.Prelude.{ℕ, ◌+◌, ◌-◌, ◌/◌}

-- "the size divided by the cluster's bytes, rounded up": cb is the bytes of a cluster, n the size
unfoldable pub clusters_for : ℕ → ℕ → ℕ
clusters_for cb n = (n + (cb - 1)) / cb
