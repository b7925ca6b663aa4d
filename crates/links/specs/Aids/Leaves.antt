-- What theorems ask of an image, and what a change of clusters' entries leaves of it.
use Rattle.std.specs.Prelude.{ℕ, ◌+◌, ◌*◌, ◌/◌, ◌≤◌, ◌<◌, List, ◌⊎◌, ◌≡◌, length, get_or}
use Rattle.image.specs.Bytes.{Bytes}
use Rattle.table.specs.Entries.{word_at}
use Rattle.table.specs.Aids.Copies.{Reaches, Agree}

-- l is bytes, and both copies hold the entries of all clusters
pub record HasTable (second last : ℕ) (l : List ℕ) : Type 0 where
  pub small : last ≤ 4079
  pub bytes : Bytes l
  pub reaches : Reaches second l last

-- byte j is none of those that hold the clusters' entries of the copy at byte base: it stands before them (the copy's first
-- three bytes are the kind byte and FF FF) or after them
abbrev pub Beside : ℕ → ℕ → ℕ → Type 0
Beside base last j = (j < base + 3) ⊎ (word_at base last + 2 ≤ j)

-- m is l with other entries of clusters, in both copies
pub record SameButEntries (second last : ℕ) (l m : List ℕ) : Type 0 where
  pub long : length m ≡ length l
  pub bytes : Bytes l → Bytes m
  pub beside : (j : ℕ) → Beside 512 last j → Beside second last j → get_or m j 0 ≡ get_or l j 0
  pub agree : (size : ℕ) → 512 + size ≤ second → last * 3 / 2 + 2 ≤ size → Agree second size l → Agree second size m
