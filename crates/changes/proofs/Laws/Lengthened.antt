-- A file made longer: what stays, its entry then, and its bytes.
use Rattle.std.specs.Prelude.{ℕ, ◌+◌, ◌*◌, ◌≤◌, List, [], ◌≡◌, length, get_or}
use Rattle.std.proofs.Common.{arith, inl, inr, ◌∙◌}
use Rattle.image.specs.Bytes.{Bytes}
use Rattle.image.specs.Numbers.{digits}
use Rattle.image.proofs.Laws.Numbers.{length_digits, bytes_digits}
use Rattle.image.proofs.Laws.Store.{length_stored, bytes_stored}
use Rattle.chains.specs.Content.{content}
use Rattle.chains.specs.Aids.Content.{Touches}
use Rattle.chains.specs.Lists.{◌∈◌}
use Rattle.chains.specs.Values.{Link}
use Rattle.chains.proofs.Laws.Chain.{chain_mem}
use Rattle.chains.proofs.Laws.Content.{cluster_high}
use Rattle.chains.proofs.Laws.Touched.{content_same, touched_twice}
use Rattle.contents.specs.Aids.Contents.{Area}
use Rattle.diskette.specs.Aids.Usable.{Usable}
use Rattle.diskette.specs.Places.{first_data, cluster_bytes, copy_two, last_cluster, slot_at}
use Rattle.diskette.specs.declared.Kind.{Kind}
use Rattle.directory.specs.Aids.Entries.{SameFields, Untouched}
use Rattle.fields.specs.Fields.{name_of, attr_of, start_of, size_of, with_start, with_size}
use Rattle.directory.proofs.Laws.Entries.{same_fields, word_leaves, long_leaves, word_back, long_back}
use Rattle.links.specs.Aids.Leaves.{SameButEntries}
use Rattle.sound.specs.Files.{value_of, IsFile}
use Rattle.sound.proofs.Laws.Geometry.{geometry}
use Rattle.calls.specs.Aids.Ready.{OnVolume}
use Rattle.calls.proofs.Laws.Ready.{on_usable}
use Rattle.holding.specs.Holding.{file_chain}
use Rattle.holding.proofs.Laws.Clusters.{on_clusters}
use Rattle.putting.specs.Longer.{chain_after, lengthened}
use Rattle.putting.specs.Aids.Longer.{with_clusters, CanGrow}
use Rattle.putting.proofs.Laws.Longer.{linked_leaves, start_small}
use Rattle.putting.proofs.Laws.Room.{room_fits}
use Rattle.changes.specs.Aids.Changed.{Framed}
use Rattle.changes.proofs.Laws.Frames.{entry_frame, entry_touches, frame_then, links_frame, links_touch}

module _ (k : Kind) (l : List ℕ) (s size : ℕ) (i : IsFile k l s) (g : CanGrow k l (slot_at k s) size) where
  v : OnVolume l k
  v = g.on

  u : Usable k
  u = on_usable l k v

  abbrev a : ℕ
  a = slot_at k s

  abbrev start : ℕ
  start = get_or (chain_after k l a size) 0 0

  -- the image with the clusters linked; with the start stored; with the size stored
  abbrev one : List ℕ
  one = with_clusters k l a size

  abbrev two : List ℕ
  two = with_start one a start

  abbrev long : List ℕ
  long = lengthened k l a size

  leaves : SameButEntries (copy_two k) (last_cluster k) l one
  leaves = linked_leaves k l a size g

  -- ---- what stays

  word_in : a + 26 + length (digits start 2) ≤ a + 32
  word_in = rw (length_digits start 2) (omega arith)

  long_in : a + 28 + length (digits size 4) ≤ a + 32
  long_in = rw (length_digits size 4) (omega arith)

  pub longer_frame : Framed k l long s
  unfolding lengthened
  longer_frame =
      frame_then k u s l one long (links_frame k u s l one leaves)
      (frame_then k u s one two long
      (entry_frame k u s one (a + 26) (digits start 2) (omega arith) word_in i.below)
      (entry_frame k u s two (a + 28) (digits size 4) (omega arith) long_in i.below))

  pub longer_touches : (ds : List ℕ) → Touches (last_cluster k) (512 * first_data k) (cluster_bytes k) l long ds
  unfolding lengthened
  longer_touches ds =
      touched_twice (last_cluster k) (512 * first_data k) (cluster_bytes k) l one long ds (links_touch k u s l one leaves ds)
      (touched_twice (last_cluster k) (512 * first_data k) (cluster_bytes k) one two long ds
      (entry_touches k u s one (a + 26) (digits start 2) (omega arith) word_in i.below ds)
      (entry_touches k u s two (a + 28) (digits size 4) (omega arith) long_in i.below ds))

  pub longer_bytes : Bytes long
  unfolding lengthened
  longer_bytes = bytes_stored two (a + 28) (digits size 4) (bytes_stored one (a + 26) (digits start 2) (leaves.bytes g.bytes) (bytes_digits start 2)) (bytes_digits size 4)

  -- ---- the entry

  in_one : a + 32 ≤ length one
  in_one = rw leaves.long g.file.within

  in_two_lem : a + 32 ≤ length two
  in_two_lem = rw (length_stored one (a + 26) (digits start 2)) in_one

  by_links : SameFields one a l a
  by_links = same_fields one l a a in_one g.file.within (λ j h. leaves.beside (a + j) (inr (omega (arith, u.reaches))) (inr (omega (arith, u.reaches))))

  by_start : Untouched two one (a + 26) 2 a
  by_start = word_leaves one (a + 26) start a in_one

  by_size : Untouched (with_size two a size) two (a + 28) 4 a
  by_size = long_leaves two (a + 28) size a in_two_lem

  pub longer_first : get_or long a 0 ≡ get_or l a 0
  unfolding lengthened
  longer_first = by_size.first (inl (omega arith)) ∙ by_start.first (inl (omega arith)) ∙ leaves.beside a (inr (omega (arith, u.reaches))) (inr (omega (arith, u.reaches)))

  pub longer_name : name_of long a ≡ name_of l a
  unfolding lengthened
  longer_name = by_size.name (inr (omega arith)) ∙ by_start.name (inr (omega arith)) ∙ by_links.name

  pub longer_attr : attr_of long a ≡ attr_of l a
  unfolding lengthened
  longer_attr = by_size.attr (inl (omega arith)) ∙ by_start.attr (inl (omega arith)) ∙ by_links.attr

  pub longer_start : start_of long a ≡ start
  unfolding lengthened
  longer_start = by_size.start (inr (omega arith)) ∙ word_back one (a + 26) start (start_small k l a size g) (omega (arith, in_one))

  pub longer_size : size_of long a ≡ size
  unfolding lengthened
  longer_size = long_back two (a + 28) size (omega (arith, g.room, room_fits l k v a g.file)) (omega (arith, in_two_lem))

  -- ---- its bytes, as many as there were

  area : Area (512 * first_data k) (cluster_bytes k) (last_cluster k) (length l)
  area = on_clusters l k v

  own_link : (c : ℕ) → c ∈ file_chain k l a → Link (last_cluster k) c
  own_link c m = (chain_mem (geometry k u) (value_of k l) (start_of l a) (file_chain k l a) g.file.chain c m).0

  pub longer_content : content (512 * first_data k) (cluster_bytes k) long (file_chain k l a) (size_of l a) ≡ content (512 * first_data k) (cluster_bytes k) l (file_chain k l a) (size_of l a)
  longer_content =
      content_same (512 * first_data k) (cluster_bytes k) area.wide l long (file_chain k l a) (size_of l a)
      (λ c m. ((own_link c m).0, omega (arith, area.clusters, cluster_high (512 * first_data k) (cluster_bytes k) area.wide (geometry k u) c (own_link c m))))
      longer_frame.long (λ c q m h. (longer_touches []).rest c q (own_link c m) (λ x. x) h) g.file.holds
