-- The clusters of a chain in an image, what theorems ask of the image, and what is read from and put into a chain.
use Rattle.std.specs.Prelude.{ℕ, ◌+◌, ◌-◌, ◌*◌, ◌≤◌, ◌<◌, List, length, replicate}
use Rattle.image.specs.Store.{part}
use Rattle.chains.specs.Chain.{clusters_from}
use Rattle.chains.specs.Content.{chain_bytes, byte_at}
use Rattle.chains.specs.Write.{poured}
use Rattle.table.specs.Entries.{word_at, table_of}

-- the clusters from start on by the table of the image l; there are last - 1 clusters in all
abbrev pub chain_from : ℕ → List ℕ → ℕ → List ℕ
chain_from last l start = clusters_from last (table_of last l) (last - 1) start

-- an image of so many bytes has all its clusters, and the table stands before them
pub record Area (base cb last bytes : ℕ) : Type 0 where
  pub small : last ≤ 4079
  pub wide : 0 < cb
  pub table : word_at 512 last + 2 ≤ base
  pub clusters : base + (last - 1) * cb ≤ bytes

-- n bytes of the chain, from its byte pos on
abbrev pub fetched : ℕ → ℕ → ℕ → List ℕ → ℕ → ℕ → ℕ → List ℕ
fetched base cb last l start pos n = part (chain_bytes base cb l (chain_from last l start)) pos n

-- the image after the bytes bs were put into the chain, from its byte pos on
abbrev pub bytes_put : ℕ → ℕ → ℕ → List ℕ → ℕ → ℕ → List ℕ → List ℕ
bytes_put base cb last l start pos bs = poured base cb l (chain_from last l start) pos bs (length bs)

-- the image after n zeros were put there
abbrev pub zeros_put : ℕ → ℕ → ℕ → List ℕ → ℕ → ℕ → ℕ → List ℕ
zeros_put base cb last l start pos n = poured base cb l (chain_from last l start) pos (replicate n 0) n

-- where byte pos of the chain lies in the image
abbrev pub place_of : ℕ → ℕ → ℕ → List ℕ → ℕ → ℕ → ℕ
place_of base cb last l start pos = byte_at base cb (chain_from last l start) pos
