-- When a file can have a size, and what the code answers on the way.
use Rattle.std.specs.Prelude.{ℕ, ◌+◌, ◌*◌, ◌≤◌, List, ◌≡◌, length, get_or}
use Rattle.image.specs.Bytes.{Bytes}
use Rattle.diskette.specs.Places.{last_cluster, copy_two, first_data, cluster_bytes}
use Rattle.diskette.specs.declared.Kind.{Kind}
use Rattle.sound.specs.Counts.{free_of}
use Rattle.links.specs.Linked.{linked, end_of}
use Rattle.links.specs.Aids.Linked.{new_clusters}
use Rattle.contents.specs.Aids.Contents.{chain_from, Area}
use Rattle.calls.specs.Aids.Ready.{OnVolume}
use Rattle.holding.specs.Holding.{file_chain}
use Rattle.holding.specs.Aids.Files.{FileAt}
use Rattle.putting.specs.Longer.{new_for, chain_after, lengthened}

-- the image with the new clusters linked behind those of the file, in both copies of the table
abbrev pub with_clusters : Kind → List ℕ → ℕ → ℕ → List ℕ
with_clusters k img a size = linked (copy_two k) img (end_of (file_chain k img a)) (new_for k img a size)

pub record CanGrow (k : Kind) (img : List ℕ) (a size : ℕ) : Type 0 where
  pub on : OnVolume img k
  pub file : FileAt k img a
  pub bytes : Bytes img
  pub room : size ≤ (length (file_chain k img a) + free_of k img) * cluster_bytes k

-- n clusters were added behind end: the answer is the first of them
pub record AddedBehind (k : Kind) (img : List ℕ) (end n answer : ℕ) (after : List ℕ) : Type 0 where
  pub first : answer ≡ get_or (new_clusters (last_cluster k) img n) 0 0
  pub image : after ≡ linked (copy_two k) img end (new_clusters (last_cluster k) img n)

-- the file has the clusters for that size: the answer is where its chain starts
pub record Grows (k : Kind) (img : List ℕ) (a size answer : ℕ) (after : List ℕ) : Type 0 where
  pub start : answer ≡ get_or (chain_after k img a size) 0 0
  pub image : after ≡ with_clusters k img a size

-- its entry says so: from the answer on its clusters are found, and they hold the size
pub record Lengthens (k : Kind) (img : List ℕ) (a size answer : ℕ) (after : List ℕ) : Type 0 where
  pub image : after ≡ lengthened k img a size
  pub area : Area (512 * first_data k) (cluster_bytes k) (last_cluster k) (length after)
  pub found : chain_from (last_cluster k) after answer ≡ chain_after k img a size
  pub holds : size ≤ length (chain_after k img a size) * cluster_bytes k
