-- Write: one slot changes, and its file has the bytes put at the pointer, zeros before them where that was past the size.
use Rattle.std.specs.Prelude.{ℕ, ◌+◌, ◌-◌, ◌*◌, ◌≤◌, ◌<◌, ◌≡◌, refl}
use Rattle.std.proofs.Common.{arith, inl, sym, ap₂, ◌∙◌}
use mathlib.Core.List.{List, [], ◌∷◌, append-nil}
use Rattle.std.proofs.Math.Path.{ap, subst}
use Rattle.std.proofs.Math.ListN.{length, get_or}
use Rattle.image.specs.Bytes.{Bytes}
use Rattle.image.proofs.Laws.Store.{stored_outside}
use Rattle.chains.specs.Content.{cluster_begin, content}
use Rattle.chains.specs.Aids.Content.{Touches}
use Rattle.chains.specs.Free.{free_clusters}
use Rattle.chains.specs.Aids.Growth.{longer_chain, longer_table}
use Rattle.chains.specs.Aids.Holders.{Holder, Owns, file_holder}
use Rattle.chains.specs.Aids.Replace.{Replaced}
use Rattle.chains.specs.Aids.Chain.{Chain}
use Rattle.chains.specs.Sizes.{clusters_for}
use Rattle.chains.specs.Values.{Link}
use Rattle.chains.specs.Write.{written, written_image}
use Rattle.sound.proofs.Laws.Clusters.{owns_file}
use Rattle.chains.proofs.Laws.Content.{cluster_high}
use Rattle.chains.proofs.Laws.Free.{free_length}
use Rattle.chains.proofs.Laws.Sizes.{clusters_least}
use Rattle.chains.proofs.Laws.Touched.{touched_twice}
use Rattle.chains.proofs.Laws.Write.{write_bytes, write_replaces, write_touches}
use Rattle.contents.specs.Aids.Contents.{Area}
use Rattle.diskette.specs.Aids.Usable.{Usable}
use Rattle.diskette.specs.Places.{first_data, cluster_bytes, last_cluster, root_at, slot_at}
use Rattle.diskette.specs.declared.Kind.{Kind}
use Rattle.directory.specs.Aids.Entries.{SameFields}
use Rattle.fields.specs.Fields.{name_of, attr_of, start_of, size_of}
use Rattle.directory.specs.Slots.{PlainAt}
use Rattle.chaincheck.specs.Aids.Entries.{holder_at}
use Rattle.sound.specs.Files.{value_of, ChainOf, IsFile}
use Rattle.sound.specs.Aids.Holders.{root_holders, root_chains}
use Rattle.sound.proofs.Laws.Geometry.{geometry}
use Rattle.sound.proofs.Laws.Holders.{plain_holder}
use Rattle.sound.proofs.Laws.Sound.{chain_only}
use Rattle.calls.specs.Aids.Ready.{OnVolume}
use Rattle.calls.proofs.Laws.Ready.{on_usable}
use Rattle.links.specs.Linked.{linked}
use Rattle.holding.specs.Holding.{file_chain}
use Rattle.holding.proofs.Laws.Clusters.{on_clusters}
use Rattle.holding.proofs.Laws.Chain.{file_owned}
use Rattle.putting.specs.Longer.{chain_after, lengthened}
use Rattle.putting.specs.Aids.Longer.{with_clusters, CanGrow}
use Rattle.putting.specs.Aids.Put.{CanPut}
use Rattle.putting.specs.Written.{size_after, written_in}
use Rattle.putting.proofs.Laws.Longer.{longer_length, longer_table_lem}
use Rattle.putting.proofs.Laws.Put.{can_grow}
use Rattle.changes.specs.Files.{File, file, Holds}
use Rattle.changes.specs.Aids.Changed.{Framed, SlotChanged}
use Rattle.changes.proofs.Laws.Changed.{on_theory}
use Rattle.changes.proofs.Laws.Frames.{frame_then}
use Rattle.changes.proofs.Laws.Lengthened.{longer_attr, longer_bytes, longer_content, longer_first, longer_frame, longer_name, longer_size, longer_start, longer_touches}
use Rattle.changes.proofs.Laws.Put.{put_before, put_bytes, put_entry, put_frame, put_table}
use Rattle.changes.proofs.Laws.Root.{root_file, root_file_holder}
use Rattle.changes.proofs.Laws.SameSlot.{same_good, same_plain}

-- the bytes bs are put into the file in slot s
module _ (k : Kind) (l : List ℕ) (s pointer : ℕ) (bs : List ℕ) (i : IsFile k l s) (p : CanPut k l (slot_at k s) pointer (length bs)) where
  v : OnVolume l k
  v = p.on

  u : Usable k
  u = on_usable l k v

  abbrev base : ℕ
  base = 512 * first_data k

  abbrev cb : ℕ
  cb = cluster_bytes k

  abbrev last : ℕ
  last = last_cluster k

  area : Area base cb last (length l)
  area = on_clusters l k v

  abbrev a : ℕ
  a = slot_at k s

  -- its size before and after, and its clusters
  abbrev size : ℕ
  size = size_of l a

  abbrev more : ℕ
  more = size_after l a pointer (length bs)

  abbrev own : List ℕ
  own = root_chains k l a

  abbrev ds : List ℕ
  ds = chain_after k l a more

  -- the image with the file made longer, and then with the bytes
  abbrev long : List ℕ
  long = lengthened k l a more

  abbrev m : List ℕ
  m = written_in k l a pointer bs

  grow : CanGrow k l a more
  grow = can_grow k l a pointer (length bs) p size more refl refl

  own_is : own ≡ file_chain k l a
  own_is = root_file k l v s i

  wrote_table : (c : ℕ) → value_of k m c ≡ longer_table last cb (value_of k l) own more c
  unfolding written_in longer_table
  wrote_table c = put_table k u long ds size pointer bs c ∙ longer_table_lem k l a more grow c ∙ ap (λ (cs : List ℕ). longer_table last cb (value_of k l) cs more c) (sym own_is)

  wrote_frame : Framed k l m s
  unfolding written_in
  wrote_frame = frame_then k u s l long m (longer_frame k l s more i grow) (put_frame k u long ds size pointer bs s)

  pub wrote_bytes : Bytes bs → Bytes m
  unfolding written_in
  wrote_bytes b = put_bytes k u long ds size pointer bs (longer_bytes k l s more i grow) b

  -- ---- the entry

  entry : SameFields m a long a
  unfolding written_in
  entry = put_entry k u long ds size pointer bs s i.below (rw (longer_length k l a more grow) p.file.within)

  wrote_first : get_or m a 0 ≡ get_or l a 0
  unfolding written_in
  wrote_first = put_before k u long ds size pointer bs a (omega (arith, i.below)) ∙ longer_first k l s more i grow

  wrote_name : name_of m a ≡ name_of l a
  wrote_name = entry.name ∙ longer_name k l s more i grow

  wrote_attr : attr_of m a ≡ attr_of l a
  wrote_attr = entry.attr ∙ longer_attr k l s more i grow

  wrote_start : start_of m a ≡ get_or ds 0 0
  wrote_start = entry.start ∙ longer_start k l s more i grow

  wrote_size : size_of m a ≡ more
  wrote_size = entry.size ∙ longer_size k l s more i grow

  wrote_plain : PlainAt m a
  wrote_plain = same_plain k l m s v i wrote_first wrote_name wrote_attr

  wrote_holder : holder_at cb m a ≡ file_holder cb (get_or ds 0 0) more
  wrote_holder = plain_holder cb m a wrote_plain ∙ ap₂ (file_holder cb) wrote_start wrote_size

  -- ---- by the theory of chains

  fit : more ≤ (length own + length (free_clusters last (value_of k l))) * cb
  fit = rw (own_is, free_length (geometry k u) (value_of k l)) grow.room

  chain_is : longer_chain last cb (value_of k l) own more ≡ ds
  unfolding longer_chain
  chain_is = rw own_is

  whole : (c : ℕ) → Link last c → cluster_begin base cb c + cb ≤ length long
  whole c h = omega (arith, longer_length k l a more grow, area.clusters, cluster_high base cb area.wide (geometry k u) c h)

  wrote_chain : Replaced last (value_of k l) (value_of k m) (holder_at cb m a) own ds
  wrote_chain =
      subst (λ (h : Holder). Replaced last (value_of k l) (value_of k m) h own ds) (sym wrote_holder)
      (subst (λ (g : ℕ → ℕ). Replaced last (value_of k l) g (file_holder cb (get_or ds 0 0) more) own ds) (λ j c. sym (wrote_table c) j)
      (subst (λ (cs : List ℕ). Replaced last (value_of k l) (longer_table last cb (value_of k l) own more) (file_holder cb (get_or cs 0 0) more) own cs) chain_is
      (write_replaces (geometry k u) base (value_of k l) (root_holders k l) (root_chains k l) (on_theory k l v) long whole a (start_of l a) size (root_file_holder k l v s i) pointer bs fit)))

  put_touches : Touches last base cb long m ds
  unfolding written_in
  put_touches =
      subst (λ (cs : List ℕ). Touches last base cb long (written_image base cb long cs size pointer bs) cs) chain_is
      (write_touches (geometry k u) base (value_of k l) (root_holders k l) (root_chains k l) (on_theory k l v) long whole a (start_of l a) size (root_file_holder k l v s i) pointer bs fit)

  pub wrote_changed : SlotChanged k l m s ds
  wrote_changed = record {
    slot = i.below;
    frame = wrote_frame;
    chain = wrote_chain;
    clusters = touched_twice last base cb l long m ds (longer_touches k l s more i grow ds) put_touches;
    good = same_good k l m s v i wrote_first wrote_name wrote_attr;
  }

  -- ---- where the file's clusters have room for it all: nothing before the root is altered, and the start stays

  module _ (within : more ≤ length (file_chain k l a) * cb) where
    kept : (ds ≡ file_chain k l a) × (with_clusters k l a more ≡ l)
    unfolding linked
    kept =
        let z : clusters_for cb more - length (file_chain k l a) ≡ 0 = omega (arith, clusters_least cb area.wide more (length (file_chain k l a)) within) in
        (rw z (append-nil (file_chain k l a)), rw z)

    pub tables_kept : (j : ℕ) → j < root_at k → get_or m j 0 ≡ get_or l j 0
    unfolding written_in lengthened
    tables_kept j h =
        put_before k u long ds size pointer bs j (omega arith)
        ∙ stored_outside _ (a + 28) _ j (inl (omega arith))
        ∙ stored_outside _ (a + 26) _ j (inl (omega arith))
        ∙ ap (λ (x : List ℕ). get_or x j 0) kept.1

    pub start_kept : start_of m a ≡ start_of l a
    start_kept = wrote_start ∙ ap (λ (cs : List ℕ). get_or cs 0 0) kept.0 ∙ by (file_chain k l a) p.file.chain
      where
        by : (cs : List ℕ) → Chain last (value_of k l) (start_of l a) cs → get_or cs 0 0 ≡ start_of l a
        by [] c = sym c
        by (x ∷ xs) c = sym c.0

  -- ---- what the file holds then

  chain_after_lem : ChainOf k m s ds
  chain_after_lem = owns_file last cb area.wide (value_of k m) (start_of m a) (size_of m a) ds (subst (λ (h : Holder). Owns last (value_of k m) h ds) (plain_holder cb m a wrote_plain) wrote_chain.owns)

  wrote_content : content base cb m ds more ≡ written (content base cb l (file_chain k l a) size) pointer bs
  unfolding written_in
  wrote_content =
      ap (λ (cs : List ℕ). content base cb (written_image base cb long cs size pointer bs) cs more) (sym chain_is)
      ∙ write_bytes (geometry k u) base (value_of k l) (root_holders k l) (root_chains k l) (on_theory k l v) long whole a (start_of l a) size (root_file_holder k l v s i) pointer bs fit
      ∙ ap (λ (cs : List ℕ). written (content base cb long cs size) pointer bs) own_is
      ∙ ap (λ (xs : List ℕ). written xs pointer bs) (longer_content k l s more i grow)

  module _ (f : File) (x : Holds k l s f) where
    held : content base cb l (file_chain k l a) size ≡ f.bytes
    held =
        let chain : ChainOf k l s (file_chain k l a) = owns_file last cb area.wide (value_of k l) (start_of l a) size (file_chain k l a) (file_owned l k v s i) in
        ap (λ (cs : List ℕ). content base cb l cs size) (chain_only k u l s (file_chain k l a) x.bytes.0 chain x.bytes.1) ∙ x.bytes.2

    pub wrote_holds : Holds k m s (file f.name f.attr (written f.bytes pointer bs))
    wrote_holds = record {
      is_file = record { below = i.below; plain = wrote_plain };
      name = wrote_name ∙ x.name;
      attr = wrote_attr ∙ x.attr;
      bytes = (ds, chain_after_lem, ap (content base cb m ds) wrote_size ∙ wrote_content ∙ ap (λ (xs : List ℕ). written xs pointer bs) held);
    }
