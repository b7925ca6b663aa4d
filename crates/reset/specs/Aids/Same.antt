-- The file in slot s, with the clusters cs, is the same in m as in l to the last byte.
use Rattle.std.specs.Prelude.{ℕ, ◌*◌, List, ◌≡◌, length, get_or}
use Rattle.chains.specs.Aids.Content.{InCluster}
use Rattle.chains.specs.Lists.{◌∈◌}
use Rattle.diskette.specs.Places.{first_data, cluster_bytes, slot_at}
use Rattle.diskette.specs.declared.Kind.{Kind}
use Rattle.directory.specs.Entries.{SameBytes}
use Rattle.sound.specs.Files.{value_of}

pub record SameIn (k : Kind) (s : ℕ) (cs l m : List ℕ) : Type 0 where
  pub long : length m ≡ length l
  pub entry : SameBytes m (slot_at k s) l (slot_at k s)
  pub values : (c : ℕ) → c ∈ cs → value_of k m c ≡ value_of k l c
  pub bytes : (c q : ℕ) → c ∈ cs → InCluster (512 * first_data k) (cluster_bytes k) c q → get_or m q 0 ≡ get_or l q 0
