-- The bytes of a file along its chain. The data begins at byte base of the image, with cluster 2; a cluster has cb bytes.
use Rattle.std.specs.Prelude.{ℕ, ◌+◌, ◌-◌, ◌*◌, ◌/◌, ◌%◌, List, [], ◌∷◌, ◌++◌, get_or, take, drop}

-- where cluster c begins in the image
unfoldable pub cluster_begin : ℕ → ℕ → ℕ → ℕ
cluster_begin base cb c = base + (c - 2) * cb

-- where byte p of the chain cs lies in the image
unfoldable pub byte_at : ℕ → ℕ → List ℕ → ℕ → ℕ
byte_at base cb cs p = cluster_begin base cb (get_or cs (p / cb) 0) + p % cb

-- the bytes of a chain, cluster by cluster
unfoldable pub chain_bytes : ℕ → ℕ → List ℕ → List ℕ → List ℕ
chain_bytes base cb img [] = []
chain_bytes base cb img (c ∷ cs) = take cb (drop (cluster_begin base cb c) img) ++ chain_bytes base cb img cs

-- the bytes of a file of size bytes
unfoldable pub content : ℕ → ℕ → List ℕ → List ℕ → ℕ → List ℕ
content base cb img cs size = take size (chain_bytes base cb img cs)
