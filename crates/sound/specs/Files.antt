-- The files of a volume: plain entries of the root, and the clusters of each. A volume is a kind and the bytes of its
-- system area, or of its whole image.
use Rattle.std.specs.Prelude.{ℕ, ◌+◌, ◌≤◌, ◌<◌, List, [], ◌≡◌, get_or, length}
use Rattle.chains.specs.Values.{Link, End}
use Rattle.chains.specs.Sizes.{clusters_for}
use Rattle.diskette.specs.Places.{cluster_bytes, last_cluster, root_entries, slot_at}
use Rattle.diskette.specs.declared.Kind.{Kind}
use Rattle.table.specs.Entries.{table_of}
use Rattle.fields.specs.Fields.{start_of, size_of}
use Rattle.directory.specs.Slots.{PlainAt}

-- the value of a cluster's table entry
abbrev pub value_of : Kind → List ℕ → ℕ → ℕ
value_of k l = table_of (last_cluster k) l

-- slot s holds a plain file
pub record IsFile (k : Kind) (l : List ℕ) (s : ℕ) : Type 0 where
  pub below : s < root_entries k
  pub plain : PlainAt l (slot_at k s)

-- "the clusters from start .., each in range, each but the last naming the next, the last an end value", by the table f
pub record Clusters (last : ℕ) (f : ℕ → ℕ) (start : ℕ) (cs : List ℕ) : Type 0 where
  pub from_start : get_or cs 0 0 ≡ start
  pub in_range : (i : ℕ) → i < length cs → Link last (get_or cs i 0)
  pub naming : (i : ℕ) → i + 1 < length cs → f (get_or cs i 0) ≡ get_or cs (i + 1) 0
  pub ending : (i : ℕ) → i + 1 ≡ length cs → End (f (get_or cs i 0))

-- the clusters of a file: none, with size 0 and start 0; or a chain of "at least the size's clusters", the size divided by the
-- cluster's bytes, rounded up
pub data FileClusters (last cb : ℕ) (f : ℕ → ℕ) (start size : ℕ) (cs : List ℕ) : Type 0 where
  none_of_it : size ≡ 0 → start ≡ 0 → cs ≡ [] → FileClusters last cb f start size cs
  enough : 0 < length cs → clusters_for cb size ≤ length cs → Clusters last f start cs → FileClusters last cb f start size cs

-- cs is the chain of the file in slot s
abbrev pub ChainOf : Kind → List ℕ → ℕ → List ℕ → Type 0
ChainOf k l s cs =
    FileClusters (last_cluster k) (cluster_bytes k) (value_of k l) (start_of l (slot_at k s)) (size_of l (slot_at k s)) cs

-- lists s is the chain of the file in slot s, for each file
abbrev pub AreChains : Kind → List ℕ → (ℕ → List ℕ) → Type 0
AreChains k l lists = (s : ℕ) → IsFile k l s → ChainOf k l s (lists s)
