-- What a file holds whose entry starts at byte a of a volume of the kind k.
use Rattle.std.specs.Prelude.{ℕ, ◌-◌, ◌*◌, List}
use Rattle.chains.specs.Chain.{clusters_from}
use Rattle.chains.specs.Content.{content}
use Rattle.diskette.specs.Places.{first_data, cluster_bytes, last_cluster}
use Rattle.diskette.specs.declared.Kind.{Kind}
use Rattle.fields.specs.Fields.{start_of, size_of}
use Rattle.sound.specs.Files.{value_of}

-- its clusters, by the table from the start on; the volume has last_cluster - 1 in all
abbrev pub file_chain : Kind → List ℕ → ℕ → List ℕ
file_chain k img a = clusters_from (last_cluster k) (value_of k img) (last_cluster k - 1) (start_of img a)

-- its bytes
unfoldable pub file_bytes : Kind → List ℕ → ℕ → List ℕ
file_bytes k img a = content (512 * first_data k) (cluster_bytes k) img (file_chain k img a) (size_of img a)
