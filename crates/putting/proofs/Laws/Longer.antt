-- A file of a ready volume made longer: how many clusters it has then, that they are a chain of the new table, and that they
-- hold its bytes.
use Prim.Native.Nat.{ℕ, ◌+◌, ◌-◌, ◌*◌, ◌≤◌, ◌<◌, max}
use Rattle.std.proofs.Common.{arith, mul-le-mul_right, inl, inr, ◌∙◌, length-append}
use Rattle.std.specs.Prelude.{List, [], ◌∷◌, ◌⊎◌, ◌≡◌, refl, length, get_or}
use Rattle.std.proofs.Math.Path.{sym, ap, subst}
use Rattle.image.proofs.Laws.Store.{length_stored}
use Rattle.chains.specs.Aids.Chain.{Chain}
use Rattle.chains.specs.Aids.Free.{Takable}
use Rattle.chains.specs.Aids.Growth.{extended}
use Rattle.chains.specs.Lists.{◌∈◌}
use Rattle.chains.specs.Sizes.{clusters_for}
use Rattle.chains.specs.Aids.Sizes.{Geometry, lacking}
use Rattle.chains.specs.Values.{Link}
use Rattle.chains.proofs.Laws.Chain.{chain_mem}
use Rattle.chains.proofs.Laws.Growth.{extended_chain}
use Rattle.chains.proofs.Laws.Sizes.{clusters_hold, clusters_least}
use Rattle.diskette.specs.Places.{first_data, cluster_bytes, copy_two, last_cluster}
use Rattle.diskette.specs.declared.Kind.{Kind}
use Rattle.fields.specs.Fields.{start_of, with_start}
use Rattle.table.specs.Entries.{word_at, table_of}
use Rattle.table.proofs.Laws.View.{table_beside}
use Rattle.links.specs.Linked.{end_of}
use Rattle.links.specs.Aids.Leaves.{HasTable, SameButEntries}
use Rattle.links.proofs.Laws.Leaves.{leaves_linked}
use Rattle.links.proofs.Laws.Linked.{end_behind, table_linked}
use Rattle.links.proofs.Laws.New.{new_takable, new_length}
use Rattle.contents.specs.Aids.Contents.{chain_from, Area}
use Rattle.contents.proofs.Laws.Chain.{chain_is}
use Rattle.sound.specs.Counts.{free_of}
use Rattle.sound.specs.Files.{value_of}
use Rattle.sound.proofs.Laws.Geometry.{geometry}
use Rattle.calls.specs.Aids.Ready.{OnVolume}
use Rattle.calls.proofs.Laws.Ready.{on_usable}
use Rattle.holding.specs.Holding.{file_chain}
use Rattle.holding.proofs.Laws.Clusters.{on_clusters, copies_reach}
use Rattle.putting.specs.Longer.{new_for, chain_after, lengthened}
use Rattle.putting.specs.Aids.Longer.{with_clusters, CanGrow}
use Rattle.putting.proofs.Laws.Room.{apart_once}

module _ (k : Kind) (img : List ℕ) (a size : ℕ) (g : CanGrow k img a size) where
  v : OnVolume img k
  v = g.on

  abbrev own : List ℕ
  own = file_chain k img a

  G : Geometry
  G = geometry k (on_usable img k v)

  wide : 0 < cluster_bytes k
  wide = (on_clusters img k v).wide

  holds : HasTable (copy_two k) (last_cluster k) img
  holds = record { small = (on_usable img k v).below_reserved; bytes = g.bytes; reaches = copies_reach img k v (copy_two k) (last_cluster k) refl refl }

  takable : Takable (last_cluster k) (value_of k img) (new_for k img a size)
  takable = new_takable (last_cluster k) img (lacking (cluster_bytes k) own size) (on_usable img k v).below_reserved

  new_many : length (new_for k img a size) ≡ clusters_for (cluster_bytes k) size - length own
  new_many =
      let most : clusters_for (cluster_bytes k) size ≤ length own + free_of k img = clusters_least (cluster_bytes k) wide size (length own + free_of k img) g.room in
      new_length (last_cluster k) img (lacking (cluster_bytes k) own size) (on_usable img k v).below_reserved (omega arith)

  pub after_long : length (chain_after k img a size) ≡ max (length own) (clusters_for (cluster_bytes k) size)
  after_long = omega (arith, length-append own (new_for k img a size), new_many)

  pub after_holds : size ≤ length (chain_after k img a size) * cluster_bytes k
  after_holds =
      let m : clusters_for (cluster_bytes k) size * cluster_bytes k ≤ length (chain_after k img a size) * cluster_bytes k = mul-le-mul_right (cluster_bytes k) (omega (arith, after_long)) in
      omega (arith, clusters_hold (cluster_bytes k) wide size)

  -- ---- the image

  behind : (end_of own ≡ 0) ⊎ Link (last_cluster k) (end_of own)
  behind = elim (end_behind (last_cluster k) (on_usable img k v).below_reserved (value_of k img) (start_of img a) own g.file.chain) [
    | inl z ↦ inl z
    | inr p ↦ inr p.0
  ]

  pub linked_leaves : SameButEntries (copy_two k) (last_cluster k) img (with_clusters k img a size)
  linked_leaves = leaves_linked (copy_two k) (last_cluster k) (new_for k img a size) img (end_of own) holds.reaches behind takable.range

  pub linked_length : length (with_clusters k img a size) ≡ length img
  linked_length = linked_leaves.long

  pub longer_length : length (lengthened k img a size) ≡ length img
  unfolding lengthened
  longer_length = length_stored _ _ _ ∙ length_stored (with_clusters k img a size) _ _ ∙ linked_length

  pub longer_area : Area (512 * first_data k) (cluster_bytes k) (last_cluster k) (length (lengthened k img a size))
  longer_area = rw longer_length (on_clusters img k v)

  -- the entry stands behind the tables
  pub longer_table_lem : (c : ℕ) → table_of (last_cluster k) (lengthened k img a size) c ≡ extended (value_of k img) own (new_for k img a size) c
  unfolding lengthened
  longer_table_lem c =
      let far : word_at 512 (last_cluster k) + 2 ≤ a = omega (arith, (on_usable img k v).reaches, g.file.behind) in
      table_beside (last_cluster k) (with_start (with_clusters k img a size) a (get_or (chain_after k img a size) 0 0)) (a + 28) _ (inr (omega arith)) c
      ∙ table_beside (last_cluster k) (with_clusters k img a size) (a + 26) _ (inr (omega arith)) c
      ∙ ap (λ (f : ℕ → ℕ). f c) (table_linked (copy_two k) (last_cluster k) img holds (start_of img a) own (new_for k img a size) g.file.chain takable)

  longer_chain_lem : Chain (last_cluster k) (table_of (last_cluster k) (lengthened k img a size)) (get_or (chain_after k img a size) 0 0) (chain_after k img a size)
  unfolding G
  longer_chain_lem =
      subst (λ (f : ℕ → ℕ). Chain (last_cluster k) f (get_or (chain_after k img a size) 0 0) (chain_after k img a size)) (λ j c. sym (longer_table_lem c) j)
      (extended_chain G (value_of k img) (start_of img a) own (new_for k img a size) g.file.chain takable.range
      (apart_once G (value_of k img) _ own (new_for k img a size) g.file.chain takable.unused takable.each))

  pub longer_found : chain_from (last_cluster k) (lengthened k img a size) (get_or (chain_after k img a size) 0 0) ≡ chain_after k img a size
  longer_found = chain_is (512 * first_data k) (cluster_bytes k) (last_cluster k) (lengthened k img a size) _ longer_area (chain_after k img a size) longer_chain_lem

  first_small : (xs : List ℕ) → ((c : ℕ) → c ∈ xs → Link (last_cluster k) c) → get_or xs 0 0 ≤ last_cluster k
  first_small [] h = omega arith
  first_small (x ∷ xs) h = (h x (inl refl)).1

  pub start_small : get_or (chain_after k img a size) 0 0 < 65536
  unfolding G
  start_small =
      let h : (c : ℕ) → c ∈ chain_after k img a size → Link (last_cluster k) c = λ c m. (chain_mem G _ _ (chain_after k img a size) longer_chain_lem c m).0 in
      omega (arith, first_small (chain_after k img a size) h, (on_usable img k v).below_reserved)
