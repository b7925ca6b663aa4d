-- The clusters and the tables of a volume that is ready, in the form of the code's needs.
use Rattle.std.specs.Prelude.{ℕ, ◌+◌, ◌*◌, ◌/◌, ◌≤◌, ◌<◌, List, ◌≡◌, length}
use Rattle.std.proofs.Common.{arith}
use Rattle.contents.specs.Aids.Contents.{Area}
use Rattle.diskette.specs.Aids.Usable.{Usable}
use Rattle.diskette.specs.Places.{first_data, cluster_bytes, copy_two, last_cluster}
use Rattle.diskette.specs.declared.Kind.{Kind}
use Rattle.table.specs.Aids.Copies.{Reaches}
use Rattle.calls.specs.Aids.Ready.{OnVolume}
use Rattle.calls.proofs.Laws.Ready.{on_usable, on_area}
use Rattle.holding.proofs.Laws.Kinds.{clusters_inside, area_inside}
use Rattle.holding.proofs.Laws.Kinds as kinds

module _ (img : List ℕ) (k : Kind) (v : OnVolume img k) where
  pub on_clusters : Area (512 * first_data k) (cluster_bytes k) (last_cluster k) (length img)
  on_clusters = clusters_inside img k v.known

  pub kind_area : (first cb last : ℕ) → first ≡ first_data k → cb ≡ cluster_bytes k → last ≡ last_cluster k → Area (512 * first) cb last (length img)
  kind_area = area_inside img k v.known

  pub base_fits : (first : ℕ) → first ≡ first_data k → 512 * first < 18446744073709551616
  base_fits = kinds.base_fits img k v.known

  pub cluster_wide : (cb : ℕ) → cb ≡ cluster_bytes k → 0 < cb
  cluster_wide cb e = rw e on_clusters.wide

  -- both copies of the table stand within the image
  pub copies_reach : (second last : ℕ) → second ≡ copy_two k → last ≡ last_cluster k → Reaches second img last
  copies_reach second last e f =
      let u : Usable k = on_usable img k v in
      let h : 512 * first_data k ≤ length img = on_area img k v in
      let r : last_cluster k * 3 / 2 + 2 ≤ 512 * k.fat = u.reaches in
      rw (e, f) (record { low = omega arith; high = omega arith })

  pub last_small : (last : ℕ) → last ≡ last_cluster k → last ≤ 4079
  last_small = kinds.last_small img k v.known
