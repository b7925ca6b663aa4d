-- When bytes can be put into a file.
use Rattle.std.specs.Prelude.{ℕ, ◌+◌, ◌*◌, ◌≤◌, List, length}
use Rattle.image.specs.Bytes.{Bytes}
use Rattle.diskette.specs.Places.{first_data, cluster_bytes, last_cluster}
use Rattle.diskette.specs.declared.Kind.{Kind}
use Rattle.sound.specs.Counts.{free_of}
use Rattle.contents.specs.Aids.Contents.{chain_from, Area}
use Rattle.calls.specs.Aids.Ready.{OnVolume}
use Rattle.holding.specs.Holding.{file_chain}
use Rattle.holding.specs.Aids.Files.{FileAt}

-- the chain that starts at start has room for n bytes from byte pointer on
pub record HasRoom (k : Kind) (img : List ℕ) (start pointer n : ℕ) : Type 0 where
  pub area : Area (512 * first_data k) (cluster_bytes k) (last_cluster k) (length img)
  pub fits : pointer + n ≤ length (chain_from (last_cluster k) img start) * cluster_bytes k

-- the file whose entry starts at byte a has, with the free clusters
pub record CanPut (k : Kind) (img : List ℕ) (a pointer n : ℕ) : Type 0 where
  pub on : OnVolume img k
  pub file : FileAt k img a
  pub bytes : Bytes img
  pub fits : pointer + n ≤ (length (file_chain k img a) + free_of k img) * cluster_bytes k
