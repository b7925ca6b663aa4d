-- An image of a kind, sound or not, in the form of the code's needs.
use Rattle.std.specs.Prelude.{ℕ, ◌+◌, ◌*◌, ◌≤◌, ◌<◌, List, ◌≡◌, length, Some}
use Rattle.std.proofs.Common.{arith}
use Rattle.contents.specs.Aids.Contents.{Area}
use Rattle.contents.proofs.Laws.Kinds.{area_kind}
use Rattle.diskette.specs.Images.{kind_of_image}
use Rattle.diskette.specs.Aids.Usable.{Usable}
use Rattle.diskette.proofs.Laws.Images.{image_of_kind, image_usable, image_has_area}
use Rattle.diskette.specs.Places.{first_data, cluster_bytes, last_cluster, root_at, root_entries, slot_at}
use Rattle.diskette.specs.declared.Kind.{Kind}
use Rattle.table.specs.Entries.{word_at}

module _ (img : List ℕ) (k : Kind) (e : kind_of_image img ≡ Some k) where
  pub usable : Usable k
  usable = image_usable img k e

  area : 512 * first_data k ≤ length img
  area = image_has_area img k ((image_of_kind img k).0 e) usable

  -- the root and each of its entries stand within the image
  pub root_inside : (root count : ℕ) → root ≡ root_at k → count ≡ root_entries k → root + 32 * count ≤ length img
  root_inside root count r n = omega (arith, area)

  pub slot_inside : (slot a : ℕ) → slot < root_entries k → a ≡ slot_at k slot → a + 32 ≤ length img
  slot_inside slot a h i = omega (arith, area)

  -- so do the clusters, and the table before them
  pub clusters_inside : Area (512 * first_data k) (cluster_bytes k) (last_cluster k) (length img)
  clusters_inside = area_kind k usable (length img) (omega (arith, ((image_of_kind img k).0 e).long))

  pub area_inside : (first cb last : ℕ) → first ≡ first_data k → cb ≡ cluster_bytes k → last ≡ last_cluster k → Area (512 * first) cb last (length img)
  area_inside first cb last fe ce le = rw (fe, ce, le) clusters_inside

  pub base_fits : (first : ℕ) → first ≡ first_data k → 512 * first < 18446744073709551616
  base_fits first r = omega (arith, usable.whole, usable.small)

  pub last_small : (last : ℕ) → last ≡ last_cluster k → last ≤ 4079
  last_small last r = rw r usable.below_reserved

  pub table_inside : (last : ℕ) → last ≡ last_cluster k → word_at 512 last + 2 ≤ length img
  table_inside last r = rw r (omega (arith, clusters_inside.table, area))
