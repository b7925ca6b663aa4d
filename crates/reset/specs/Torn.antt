-- The image is saved by sectors of 512 bytes, in any order. A reset in the middle of a save leaves on the disk, of each sector,
-- the old bytes or the new ones.
use Rattle.std.specs.Prelude.{ℕ, ◌+◌, ◌*◌, ◌/◌, ◌<◌, List, ◌⊎◌, ◌≡◌, length, get_or}
use Rattle.chains.specs.Content.{cluster_begin}
use Rattle.diskette.specs.Places.{first_data, cluster_bytes, slot_at}
use Rattle.diskette.specs.declared.Kind.{Kind}
use Rattle.directory.specs.Entries.{SameBytes}
use Rattle.fields.specs.Fields.{name_of}
use Rattle.sound.specs.Files.{value_of, IsFile}
use Rattle.sound.specs.Findings.{InChain}
use Rattle.changes.specs.Files.{File, Holds}

abbrev pub sector_bytes : ℕ
sector_bytes = 512

-- sector j of m is that of l
abbrev pub SameSector : List ℕ → List ℕ → ℕ → Type 0
SameSector l m j = (q : ℕ) → q / sector_bytes ≡ j → get_or m q 0 ≡ get_or l q 0

-- old is the disk at the last save that ended, new the image that was being saved, m the disk after the reset
pub record Torn (old new m : List ℕ) : Type 0 where
  pub alike : length new ≡ length old
  pub long : length m ≡ length old
  pub sectors : (j : ℕ) → SameSector old m j ⊎ SameSector new m j

-- the file in slot s stands on the disk m as in the image l
pub record Stands (k : Kind) (s : ℕ) (l m : List ℕ) : Type 0 where
  -- the 32 bytes of its entry
  pub entry : SameBytes m (slot_at k s) l (slot_at k s)
  -- for each of its clusters the table's value (of copy 1) and the bytes
  pub values : (c : ℕ) → InChain k l s c → value_of k m c ≡ value_of k l c
  pub bytes : (c i : ℕ) → InChain k l s c → i < cluster_bytes k
      → let q = cluster_begin (512 * first_data k) (cluster_bytes k) c + i in get_or m q 0 ≡ get_or l q 0
  -- so it is the same file,
  pub file : (f : File) → Holds k l s f → Holds k m s f
  -- and no second one has its name
  pub alone : (r : ℕ) → IsFile k m r → name_of m (slot_at k r) ≡ name_of m (slot_at k s) → r ≡ s
