-- Bytes put into a file: "bytes between the old size and the pointer become zero, size becomes the larger of old size and
-- pointer plus count .. Bytes past the size stay." Its entry starts at byte a.
use Rattle.std.specs.Prelude.{ℕ, ◌+◌, ◌*◌, max, List, length}
use Rattle.chains.specs.Write.{written_image}
use Rattle.diskette.specs.Places.{first_data, cluster_bytes}
use Rattle.diskette.specs.declared.Kind.{Kind}
use Rattle.fields.specs.Fields.{size_of}
use Rattle.putting.specs.Longer.{chain_after, lengthened}

-- "size becomes the larger of old size and pointer plus count"
abbrev pub size_after : List ℕ → ℕ → ℕ → ℕ → ℕ
size_after img a pointer n = max (size_of img a) (pointer + n)

-- the image after the bytes bs were put at the pointer, zeros before them from the old size on
unfoldable pub written_in : Kind → List ℕ → ℕ → ℕ → List ℕ → List ℕ
written_in k img a pointer bs =
    let size = size_after img a pointer (length bs) in
    written_image (512 * first_data k) (cluster_bytes k) (lengthened k img a size) (chain_after k img a size) (size_of img a) pointer bs
