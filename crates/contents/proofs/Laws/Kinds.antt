-- An image of a kind has the clusters of that kind, where the kind says.
use Rattle.std.specs.Prelude.{ℕ, ◌-◌, ◌*◌, ◌≤◌, ◌≡◌}
use Rattle.std.proofs.Common.{arith}
use Rattle.diskette.specs.Aids.Usable.{Usable}
use Rattle.diskette.specs.Places.{first_data, clusters, last_cluster, cluster_bytes}
use Rattle.diskette.specs.declared.Kind.{Kind}
use Rattle.contents.specs.Aids.Contents.{Area}

module _ (k : Kind) (u : Usable k) where
  pub area_kind : (bytes : ℕ) → 512 * k.sectors ≤ bytes → Area (512 * first_data k) (cluster_bytes k) (last_cluster k) bytes
  area_kind bytes h = record {
    small = u.below_reserved;
    wide = omega (arith, u.per_low);
    table = omega (arith, u.reaches);
    clusters =
        let e : last_cluster k - 1 ≡ clusters k = omega arith in
        rw e (omega (arith, u.whole));
  }
