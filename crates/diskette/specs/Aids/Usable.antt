-- What every rule may rest on.
use Rattle.std.specs.Prelude.{◌+◌, ◌*◌, ◌/◌, ◌≤◌, ◌<◌}
use Rattle.diskette.specs.Places.{clusters, last_cluster, first_data}
use Rattle.diskette.specs.declared.Kind.{Kind}

-- What is used of a kind. The four meet it, and so does any FAT12 disk of 1 to 8 sectors a cluster whose last cluster is
-- below FF0, the lowest reserved value.
pub record Usable (k : Kind) : Type 0 where
  pub per_low : 1 ≤ k.per
  pub per_high : k.per ≤ 8
  pub some : 1 ≤ clusters k
  pub below_reserved : last_cluster k ≤ 4079
  pub reaches : last_cluster k * 3 / 2 + 2 ≤ 512 * k.fat
  pub whole : first_data k + clusters k * k.per ≤ k.sectors
  pub few_slots : k.root ≤ 4096
  pub small : k.sectors < 4294967296
