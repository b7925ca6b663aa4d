-- A file made as long as a write needs: "each new cluster is the lowest free", "Size and start are stored at once". It "uses the
-- file's spare clusters first": only those that are lacking are new. Its entry starts at byte a.
use Rattle.std.specs.Prelude.{ℕ, ◌-◌, List, ◌++◌, length, get_or, take}
use Rattle.chains.specs.Free.{free_clusters}
use Rattle.chains.specs.Sizes.{clusters_for}
use Rattle.diskette.specs.Places.{cluster_bytes, copy_two, last_cluster}
use Rattle.diskette.specs.declared.Kind.{Kind}
use Rattle.fields.specs.Fields.{with_start, with_size}
use Rattle.links.specs.Linked.{end_of, linked}
use Rattle.sound.specs.Files.{value_of}
use Rattle.holding.specs.Holding.{file_chain}

-- the clusters that the file lacks to have size bytes: the lowest free ones
abbrev pub new_for : Kind → List ℕ → ℕ → ℕ → List ℕ
new_for k img a size = take (clusters_for (cluster_bytes k) size - length (file_chain k img a)) (free_clusters (last_cluster k) (value_of k img))

-- its clusters then
abbrev pub chain_after : Kind → List ℕ → ℕ → ℕ → List ℕ
chain_after k img a size = file_chain k img a ++ new_for k img a size

-- the image with the new ones linked behind its own, in both copies of the table, and with start and size stored
unfoldable pub lengthened : Kind → List ℕ → ℕ → ℕ → List ℕ
lengthened k img a size =
    let m = linked (copy_two k) img (end_of (file_chain k img a)) (new_for k img a size) in
    with_size (with_start m a (get_or (chain_after k img a size) 0 0)) a size
