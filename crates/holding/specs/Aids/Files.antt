-- What the calls ask of a file, by its entry alone.
use Rattle.std.specs.Prelude.{ℕ, ◌+◌, ◌*◌, ◌≤◌, List, length}
use Rattle.chains.specs.Aids.Chain.{Chain}
use Rattle.diskette.specs.Places.{cluster_bytes, last_cluster, root_at}
use Rattle.diskette.specs.declared.Kind.{Kind}
use Rattle.fields.specs.Fields.{start_of, size_of}
use Rattle.sound.specs.Files.{value_of}
use Rattle.holding.specs.Holding.{file_chain}

-- a file's entry starts at byte a: it stands behind the tables and within the image, and its clusters are a chain with room for
-- the size
pub record FileAt (k : Kind) (img : List ℕ) (a : ℕ) : Type 0 where
  pub behind : root_at k ≤ a
  pub within : a + 32 ≤ length img
  pub chain : Chain (last_cluster k) (value_of k img) (start_of img a) (file_chain k img a)
  pub holds : size_of img a ≤ length (file_chain k img a) * cluster_bytes k
