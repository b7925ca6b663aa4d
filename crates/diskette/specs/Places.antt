-- Where the parts of a volume stand: one boot sector, FAT copy 1, copy 2, root, data. A sector is 512 bytes.
use Rattle.std.specs.Prelude.{ℕ, ◌+◌, ◌-◌, ◌*◌, ◌/◌}
use Rattle.diskette.specs.declared.Kind.{Kind}

-- the first data sector
abbrev pub first_data : Kind → ℕ
first_data k = 1 + 2 * k.fat + k.root

-- the bytes of a cluster
abbrev pub cluster_bytes : Kind → ℕ
cluster_bytes k = 512 * k.per

-- how many clusters the data sectors make
unfoldable pub clusters : Kind → ℕ
clusters k = (k.sectors - first_data k) / k.per

-- clusters are numbered from 2
abbrev pub last_cluster : Kind → ℕ
last_cluster k = clusters k + 1

-- a root sector has 16 entries
abbrev pub root_entries : Kind → ℕ
root_entries k = 16 * k.root

-- the bytes at which the copies of the table start
abbrev pub copy_one : ℕ
copy_one = 512

abbrev pub copy_two : Kind → ℕ
copy_two k = 512 * (1 + k.fat)

-- the byte at which the root starts
abbrev pub root_at : Kind → ℕ
root_at k = 512 * (1 + 2 * k.fat)

-- the byte at which the 32 bytes of slot s start, in a directory that stands at byte root, and in the root
abbrev pub slot_from : ℕ → ℕ → ℕ
slot_from root s = root + 32 * s

abbrev pub slot_at : Kind → ℕ → ℕ
slot_at k s = slot_from (root_at k) s

-- Cluster n starts at sector (n - 2) times sectors per cluster plus first data sector.
abbrev pub sector_of : Kind → ℕ → ℕ
sector_of k n = (n - 2) * k.per + first_data k
