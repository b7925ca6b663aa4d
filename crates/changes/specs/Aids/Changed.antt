-- What every call that changes a volume comes to. One slot has another entry and other clusters; all
-- else stays.
use Rattle.std.specs.Prelude.{ℕ, ◌*◌, ◌<◌, List, ◌≢◌, ◌≡◌, length, get_or}
use Rattle.chains.specs.Aids.Content.{Touches}
use Rattle.chains.specs.Aids.Replace.{Replaced}
use Rattle.diskette.specs.Places.{first_data, cluster_bytes, copy_two, last_cluster, root_entries, slot_at}
use Rattle.diskette.specs.declared.Kind.{Kind}
use Rattle.table.specs.Aids.Copies.{Agree}
use Rattle.fields.specs.Fields.{name_of}
use Rattle.directory.specs.Entries.{SameBytes}
use Rattle.directory.specs.Slots.{NeverUsedAt, LabelAt, PlainAt}
use Rattle.chaincheck.specs.Aids.Entries.{holder_at}
use Rattle.sound.specs.Files.{value_of}
use Rattle.sound.specs.Findings.{StrangeEntry}
use Rattle.sound.specs.Aids.Holders.{root_chains}

-- the parts of l that no change of slot s reaches are the same in m: the boot sector, the kind byte and FF FF of copy 1; every
-- other slot; and the copies of the table go on to agree
pub record Framed (k : Kind) (l m : List ℕ) (s : ℕ) : Type 0 where
  pub long : length m ≡ length l
  pub head : (j : ℕ) → j < 515 → get_or m j 0 ≡ get_or l j 0
  pub agree : Agree (copy_two k) (512 * k.fat) l → Agree (copy_two k) (512 * k.fat) m
  pub others : (t : ℕ) → t < root_entries k → t ≢ s → SameBytes m (slot_at k t) l (slot_at k t)

-- slot s of m is not bad, and makes no other slot bad; l was the volume before
pub record GoodSlot (k : Kind) (l m : List ℕ) (s : ℕ) : Type 0 where
  pub used : ¬ NeverUsedAt m (slot_at k s)
  pub below : (t : ℕ) → t < s → ¬ NeverUsedAt l (slot_at k t)
  pub usual : ¬ StrangeEntry k m s
  pub no_label : ¬ LabelAt m (slot_at k s)
  pub own_name : PlainAt m (slot_at k s) → (t : ℕ) → t < root_entries k → t ≢ s → PlainAt l (slot_at k t) → name_of l (slot_at k t) ≢ name_of m (slot_at k s)

-- m is l with slot s changed, its clusters being ds then
pub record SlotChanged (k : Kind) (l m : List ℕ) (s : ℕ) (ds : List ℕ) : Type 0 where
  pub slot : s < root_entries k
  pub frame : Framed k l m s
  pub chain : Replaced (last_cluster k) (value_of k l) (value_of k m) (holder_at (cluster_bytes k) m (slot_at k s)) (root_chains k l (slot_at k s)) ds
  pub clusters : Touches (last_cluster k) (512 * first_data k) (cluster_bytes k) l m ds
  pub good : GoodSlot k l m s
