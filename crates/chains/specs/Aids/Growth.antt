-- The table after a chain was laid, made longer, or given back.
use Rattle.std.specs.Prelude.{ℕ, List, [], ◌∷◌, ◌++◌, take}
use Rattle.chains.specs.Aids.Put.{put}
use Rattle.chains.specs.Aids.Lists.{last_of}
use Rattle.chains.specs.Aids.Sizes.{lacking}
use Rattle.chains.specs.Free.{free_clusters}

-- a chain is laid: c, and then ds. "We write FFF"
unfoldable pub laid : (ℕ → ℕ) → ℕ → List ℕ → ℕ → ℕ
laid f c [] = put f c 0xfff
laid f c (d ∷ ds) = put (laid f d ds) c d

-- the clusters new go behind those of cs
unfoldable pub extended : (ℕ → ℕ) → List ℕ → List ℕ → ℕ → ℕ
extended f cs [] = f
extended f [] (n ∷ ns) = laid f n ns
extended f (c ∷ cs) (n ∷ ns) = laid f (last_of c cs) (n ∷ ns)

-- the clusters cs are free again
unfoldable pub released : (ℕ → ℕ) → List ℕ → ℕ → ℕ
released f [] = f
released f (c ∷ cs) = put (released f cs) c 0

-- ---- a file with the clusters cs gets the size n: "each new cluster is the lowest free"

-- its clusters then
unfoldable pub longer_chain : ℕ → ℕ → (ℕ → ℕ) → List ℕ → ℕ → List ℕ
longer_chain last cb f cs n = cs ++ take (lacking cb cs n) (free_clusters last f)

-- the table then
unfoldable pub longer_table : ℕ → ℕ → (ℕ → ℕ) → List ℕ → ℕ → ℕ → ℕ
longer_table last cb f cs n = extended f cs (take (lacking cb cs n) (free_clusters last f))
