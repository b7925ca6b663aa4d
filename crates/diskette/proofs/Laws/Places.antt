-- The parts lie one after the other, and a cluster in range lies whole in the image.
use Rattle.std.specs.Prelude.{ℕ, ◌+◌, ◌-◌, ◌*◌, ◌/◌, ◌≤◌, ◌<◌, ◌≡◌}
use Rattle.std.proofs.Common.{arith, mul-le-mul_right}
use Rattle.chains.specs.Content.{cluster_begin}
use Rattle.diskette.specs.Places.{first_data, cluster_bytes, clusters, last_cluster, root_entries, slot_at, sector_of}
use Rattle.diskette.specs.Aids.Usable.{Usable}
use Rattle.diskette.specs.declared.Kind.{Kind}

-- where the bytes of cluster n begin, as read, write and view have it, is the beginning of the sector that document 01 says
pub cluster_starts : (k : Kind) (n : ℕ) → cluster_begin (512 * first_data k) (cluster_bytes k) n ≡ 512 * sector_of k n
unfolding cluster_begin
cluster_starts k n = omega arith

module _ (k : Kind) (u : Usable k) where
  -- (The one product of two variables: `omega` takes it as an unknown.)
  pub cluster_within : (n : ℕ) → 2 ≤ n → n ≤ last_cluster k → sector_of k n + k.per ≤ k.sectors
  cluster_within n h l =
      let m : (n - 2 + 1) * k.per ≤ clusters k * k.per = mul-le-mul_right k.per (omega arith) in
      omega arith

  -- a slot lies before the data, after the tables
  pub slot_before_data : (s : ℕ) → s < root_entries k → slot_at k s + 32 ≤ 512 * first_data k
  slot_before_data s h = omega arith

  -- a table entry of either copy lies within that copy
  pub entry_within : (n : ℕ) → n ≤ last_cluster k → n * 3 / 2 + 2 ≤ 512 * k.fat
  entry_within n h = omega arith
