-- Create, write and close of a new file, one after the other: each ends well, and the volume has that file then.
use Rattle.std.specs.Prelude.{ℕ, ◌+◌, ◌-◌, ◌*◌, ◌≤◌, ◌<◌, Bool, true, false, not, ◌≢◌, ◌≡◌, refl, length, replicate, take, Option, Some, None}
use Rattle.std.proofs.Common.{arith, inr, sym, ◌∙◌, ne_eqb}
use Rattle.std.proofs.Math.Decide.{ℕ_discrete}
use mathlib.Core.List.{List, [], ◌∷◌}
use Rattle.std.proofs.Math.Path.{ap, subst}
use Rattle.image.proofs.Laws.Store.{stored_whole}
use Rattle.chains.specs.Aids.Put.{put}
use Rattle.chains.specs.Write.{written}
use Rattle.chains.proofs.Laws.Put.{put_same, put_other}
use Rattle.chains.specs.Sizes.{clusters_for}
use Rattle.chains.specs.Aids.Values.{OutOfUse}
use Rattle.diskette.specs.Places.{cluster_bytes, last_cluster, root_entries, slot_at}
use Rattle.diskette.specs.declared.Kind.{Kind}
use Rattle.fields.specs.Fields.{size_of, time_of, date_of}
use Rattle.names.specs.Reading.{name_given, name_bytes}
use Rattle.stamps.specs.declared.Stamp.{Stamp}
use Rattle.search.specs.Search.{is_found}
use Rattle.sound.specs.Counts.{clusters_with, free_of}
use Rattle.sound.specs.Files.{IsFile}
use Rattle.opened.specs.Places.{lowest_unused}
use Rattle.opened.specs.Records.{with_record, with_pointer, with_written, cleared}
use Rattle.calls.specs.Outcome.{Outcome, outcome}
use Rattle.calls.specs.Refusals.{place_found, file_found, slot_for_new}
use Rattle.calls.proofs.Laws.Ready.{on_kind_lem, on_usable}
use Rattle.calls.proofs.Laws.Files.{slot_within}
use Rattle.closing.specs.Close.{archived, stamped, close_effect}
use Rattle.holding.specs.Holding.{file_chain}
use Rattle.holding.proofs.Laws.Chain.{file_at}
use Rattle.creating.specs.Create.{made}
use Rattle.putting.specs.Longer.{chain_after}
use Rattle.putting.specs.Written.{size_after, written_in}
use Rattle.putting.specs.Aids.Put.{CanPut}
use Rattle.putting.proofs.Laws.Longer.{after_long}
use Rattle.putting.proofs.Laws.Put.{can_grow}
use Rattle.changes.specs.Aids.Changed.{SlotChanged}
use Rattle.changes.specs.Files.{file, Files, ShowsAt}
use Rattle.changes.proofs.Laws.Made.{new_changed}
use Rattle.changes.proofs.Laws.Marks.{close_changed}
use Rattle.changes.proofs.Laws.NewSlot.{none_of_name, lowest_vacant_lem}
use Rattle.changes.proofs.Laws.Root.{root_file, root_none}
use Rattle.changes.proofs.Laws.Wrote.{wrote_changed}
use Rattle.history.specs.Aids.Ours.{step, run}
use Rattle.history.specs.ListingCase.{file_calls, HasStamp, answered}
use Rattle.history.specs.Meant.{Reaches, IsForNew}
use Rattle.history.specs.World.{World, ours, create, write, close}
use Rattle.history.proofs.Laws.Begins.{on}
use Rattle.history.proofs.Laws.EndsWell.{TakenFor, place_free, taken_made, taken_written, live, create_well, write_well, close_well}
use Rattle.history.proofs.Laws.Given.{given_create, given_write, given_close}
use Rattle.history.proofs.Laws.HasFiles.{HasFiles, GoodFile}
use Rattle.history.proofs.Laws.Meant.{means, for_new, reaches}
use Rattle.history.proofs.Laws.OneFile.{take_all, written_first}
use Rattle.history.proofs.Laws.OneSlot.{Stands, Makes, stands_step, others_step, out_of_use_step}
use Rattle.history.proofs.Laws.Room.{changed_chain, changed_free}
use Rattle.history.proofs.Laws.Shown.{bytes_long, holds_bytes}
use Rattle.history.proofs.Laws.Stamped.{words, stamped_words, same_stamp}

-- what is told of an answer
abbrev told : Outcome → ℕ × ℕ
told o = (o.number, o.value)

three : {A : Type 0} {a b c x y z : A} → a ≡ x → b ≡ y → c ≡ z → a ∷ b ∷ c ∷ [] ≡ x ∷ y ∷ z ∷ []
three e f g = rw (e, f, g)

module _ (k : Kind) (w : World) (fs : Files) (n free : ℕ) (x : HasFiles k w fs n free) (slot : n < root_entries k)
    (s : List ℕ) (attr : ℕ) (bs : List ℕ) (stamp : Stamp) (g : GoodFile k fs free s attr bs stamp) where
  abbrev name : List ℕ
  name = name_bytes (name_given s)

  abbrev put_file : ℕ → List ℕ → Files
  put_file a bytes = put fs n (Some (file name a bytes))

  there : (a : ℕ) (bytes : List ℕ) → put_file a bytes n ≡ Some (file name a bytes)
  there a bytes = put_same fs n (Some (file name a bytes)) n refl

  -- the file put there is another one, and all others stay
  elsewhere : (a c : ℕ) (bytes more : List ℕ) (t : ℕ) → t ≢ n → put_file a bytes t ≡ put_file c more t
  elsewhere a c bytes more t d = put_other fs n (Some (file name a bytes)) t d ∙ sym (put_other fs n (Some (file name c more)) t d)

  file_there : (u : World) (a : ℕ) (bytes : List ℕ) → Stands k u (put_file a bytes) n → IsFile k u.image n
  file_there u a bytes y = (subst (ShowsAt k u.image n) (there a bytes) (y.shows n)).is_file

  -- a handle that was taken for the file reaches it
  reached : (u : World) (a : ℕ) (bytes : List ℕ) → Stands k u (put_file a bytes) n → (pointer : ℕ) (written : Bool)
      → TakenFor u.table n pointer written → Reaches k u 0 n
  reached u a bytes y pointer written taken =
      let v = on y.begins in
      subst (Reaches k u 0) taken.holds.slot (reaches k u v 0 (live k u v n pointer written taken (file_there u a bytes y)))

  -- ---- create

  abbrev world_created : World
  world_created = step w (create s attr stamp)

  none_named : file_found w.image s ≡ None
  none_named = none_of_name k w.image (on x.stands.begins) fs x.stands.shows s g.long g.new_name

  lowest : slot_for_new w.image ≡ Some n
  lowest = lowest_vacant_lem k w.image (on x.stands.begins) fs x.stands.shows n slot x.below x.never

  created : ours (create s attr stamp) w
      ≡ outcome 0 0 (made w.image w.table k n name attr g.time g.date).image (with_record w.table 0 2 n 0 false) []
  created =
      create_well k w (on x.stands.begins) s attr stamp g.time g.date n 0 g.fits g.stamped g.may none_named lowest
      (ap lowest_unused x.table ∙ place_free)

  taken_created : TakenFor world_created.table n 0 false
  taken_created =
      let r : k.root ≤ 4096 = (on_usable w.image k (on x.stands.begins)).few_slots in
      subst (λ (t : List ℕ). TakenFor t n 0 false)
      (sym (ap (λ (o : Outcome). o.table) created ∙ ap (λ (t : List ℕ). with_record t 0 2 n 0 false) x.table))
      (taken_made n (omega arith))

  created_new : IsForNew k w.image s n
  created_new = subst (IsForNew k w.image s) (ap place_found lowest)
      (for_new k w.image (on x.stands.begins) s g.fits (ap (λ (f : Option ℕ). not (is_found f)) none_named) (ap (λ (f : Option ℕ). not (is_found f)) lowest))

  makes_created : Makes k w (create s attr stamp) n fs (put_file attr [])
  makes_created = record {
    given = given_create s attr stamp;
    does = record { well = ap (λ (o : Outcome). o.number) created; named = inr created_new };
    becomes = (name, means s g.fits, there attr []);
    others = put_other fs n (Some (file name attr []));
  }

  stands_created : Stands k world_created (put_file attr []) n
  stands_created = stands_step k w fs (put_file attr []) n slot x.stands (create s attr stamp) makes_created

  -- it has no cluster, and neither had its slot
  changed_created : SlotChanged k w.image world_created.image n []
  unfolding file_found slot_for_new
  changed_created =
      let v = on x.stands.begins in
      let e = on_kind_lem w.image k v in
      subst (λ (m : List ℕ). SlotChanged k w.image m n []) (sym (ap (λ (o : Outcome). o.image) created))
      (new_changed k w.image v x.stands.begins.bytes s g.fits attr g.may g.time g.date n (rw e at none_named) (rw e at lowest))

  free_created : free_of k world_created.image ≡ free
  free_created =
      let v = on x.stands.begins in
      let z = root_none k w.image v n slot (λ p. p.0.0 x.never) in
      omega (arith, changed_free k w.image v n world_created.image [] changed_created, ap length z, x.free_are)

  -- ---- write

  abbrev world_wrote : World
  world_wrote = step world_created (write 0 bs)

  wrote : ours (write 0 bs) world_created
      ≡ outcome 0 (length bs) (written_in k world_created.image (slot_at k n) 0 (take (length bs) bs))
      (with_written (with_pointer world_created.table 0 (length bs)) 0) []
  wrote =
      write_well k world_created (on stands_created.begins) n taken_created (file_there world_created attr [] stands_created) bs
      g.some_bytes (rw free_created g.room)

  taken_wrote : TakenFor world_wrote.table n (length bs) true
  taken_wrote =
      subst (λ (t : List ℕ). TakenFor t n (length bs) true) (sym (ap (λ (o : Outcome). o.table) wrote))
      (taken_written world_created.table n 0 (length bs) taken_created g.few_bytes)

  makes_wrote : Makes k world_created (write 0 bs) n (put_file attr []) (put_file attr bs)
  makes_wrote =
      let value : (ours (write 0 bs) world_created).value ≡ length bs = ap (λ (o : Outcome). o.value) wrote in
      record {
        given = given_write 0 bs g.bytes;
        does = record { well = ap (λ (o : Outcome). o.number) wrote; named = reached world_created attr [] stands_created 0 false taken_created };
        becomes = rw (value, ne_eqb (length bs) 0 (omega (arith, g.some_bytes)), taken_created.holds.pointer, there attr [], there attr bs)
            (ap (λ (bytes : List ℕ). Some (file name attr bytes)) (sym (ap (written [] 0) (take_all bs) ∙ written_first bs)));
        others = elsewhere attr attr bs [];
      }

  stands_wrote : Stands k world_wrote (put_file attr bs) n
  stands_wrote = stands_step k world_created (put_file attr []) (put_file attr bs) n slot stands_created (write 0 bs) makes_wrote

  -- its clusters are new, as many as its bytes need
  empty_size : size_of world_created.image (slot_at k n) ≡ 0
  empty_size =
      let v = on stands_created.begins in
      let y = subst (ShowsAt k world_created.image n) (there attr []) (stands_created.shows n) in
      sym (bytes_long k world_created.image v n y.is_file) ∙ ap length (holds_bytes k world_created.image v n _ y)

  can_put : CanPut k world_created.image (slot_at k n) 0 (length (take (length bs) bs))
  can_put =
      let v = on stands_created.begins in
      let i = file_there world_created attr [] stands_created in
      let room : length bs ≤ free_of k world_created.image * cluster_bytes k = rw free_created g.room in
      record {
        on = v;
        file = file_at world_created.image k v n i (slot_at k n) refl;
        bytes = stands_created.begins.bytes;
        fits = rw (take_all bs) (omega arith);
      }

  abbrev clusters_wrote : List ℕ
  clusters_wrote = chain_after k world_created.image (slot_at k n) (size_after world_created.image (slot_at k n) 0 (length (take (length bs) bs)))

  changed_wrote : SlotChanged k world_created.image world_wrote.image n clusters_wrote
  changed_wrote =
      subst (λ (m : List ℕ). SlotChanged k world_created.image m n clusters_wrote) (sym (ap (λ (o : Outcome). o.image) wrote))
      (wrote_changed k world_created.image n 0 (take (length bs) bs) (file_there world_created attr [] stands_created) can_put)

  many_wrote : length clusters_wrote ≡ clusters_for (cluster_bytes k) (length bs)
  many_wrote =
      let v = on stands_created.begins in
      let i = file_there world_created attr [] stands_created in
      let own : length (file_chain k world_created.image (slot_at k n)) ≡ 0
      = ap length (sym (root_file k world_created.image v n i) ∙ changed_chain k w.image (on x.stands.begins) n world_created.image [] changed_created) in
      let size : size_after world_created.image (slot_at k n) 0 (length (take (length bs) bs)) ≡ length bs = rw (take_all bs, empty_size) (omega arith) in
      let grow = can_grow k world_created.image (slot_at k n) 0 (length (take (length bs) bs)) can_put _ _ refl refl in
      omega (arith, after_long k world_created.image (slot_at k n) _ grow, own, ap (clusters_for (cluster_bytes k)) size)

  free_wrote : free_of k world_wrote.image + clusters_for (cluster_bytes k) (length bs) ≡ free
  free_wrote =
      let chain = changed_chain k w.image (on x.stands.begins) n world_created.image [] changed_created in
      omega (
        arith,
        changed_free k world_created.image (on stands_created.begins) n world_wrote.image clusters_wrote changed_wrote,
        many_wrote,
        ap length chain,
        free_created,
      )

  -- ---- close

  abbrev world_closed : World
  world_closed = step world_wrote (close 0 stamp)

  closed : ours (close 0 stamp) world_wrote ≡ close_effect world_wrote.image world_wrote.table 0 stamp
  closed =
      close_well k world_wrote (on stands_wrote.begins) stamp g.time g.date g.stamped n (length bs) true taken_wrote
      (file_there world_wrote attr bs stands_wrote)

  table_closed : world_closed.table ≡ replicate 16 0
  unfolding cleared
  table_closed = ap (λ (o : Outcome). o.table) closed ∙ stored_whole world_wrote.table (replicate 16 0) taken_wrote.long

  makes_closed : Makes k world_wrote (close 0 stamp) n (put_file attr bs) (put_file (archived attr) bs)
  makes_closed = record {
    given = given_close 0 stamp;
    does = record { well = ap (λ (o : Outcome). o.number) closed; named = reached world_wrote attr bs stands_wrote (length bs) true taken_wrote };
    becomes = rw (taken_wrote.holds.written, there attr bs, there (archived attr) bs);
    others = elsewhere (archived attr) attr bs bs;
  }

  stands_closed : Stands k world_closed (put_file (archived attr) bs) n
  stands_closed = stands_step k world_wrote (put_file attr bs) (put_file (archived attr) bs) n slot stands_wrote (close 0 stamp) makes_closed

  image_closed : world_closed.image ≡ stamped world_wrote.image (slot_at k n) g.time g.date
  image_closed =
      ap (λ (o : Outcome). o.image) closed
      ∙ rw (taken_wrote.holds.written, taken_wrote.holds.slot, g.stamped, on_kind_lem world_wrote.image k (on stands_wrote.begins))

  free_closed : free_of k world_closed.image ≡ free_of k world_wrote.image
  free_closed =
      let v = on stands_wrote.begins in
      let i = file_there world_wrote attr bs stands_wrote in
      let c = close_changed k world_wrote.image v n i g.time g.date in
      ap (free_of k) image_closed ∙ omega (arith, changed_free k world_wrote.image v n _ _ c)

  out_of_use_closed : (t : ℕ → Bool) → OutOfUse (last_cluster k) t → clusters_with t k world_closed.image ≡ 0
  out_of_use_closed t o =
      out_of_use_step k world_wrote (put_file attr bs) (put_file (archived attr) bs) n slot stands_wrote (close 0 stamp) makes_closed t o
      ∙ out_of_use_step k world_created (put_file attr []) (put_file attr bs) n slot stands_created (write 0 bs) makes_wrote t o
      ∙ out_of_use_step k w fs (put_file attr []) n slot x.stands (create s attr stamp) makes_created t o
      ∙ x.out_of_use_none t o

  -- its stamp is there, and those of the others stay
  pub file_stamp : HasStamp k world_closed.image n stamp
  file_stamp =
      let v = on stands_wrote.begins in
      ap (λ (l : List ℕ). words (time_of l (slot_at k n)) (date_of l (slot_at k n))) image_closed
      ∙ stamped_words world_wrote.image (slot_at k n) g.time g.date (slot_within world_wrote.image k v n (slot_at k n) slot refl)
      g.small_time g.small_date
      ∙ sym g.stamped

  pub other_stamp : (t : ℕ) → t < root_entries k → t ≢ n → (old : Stamp) → HasStamp k w.image t old → HasStamp k world_closed.image t old
  other_stamp t i d old h =
      same_stamp k world_wrote.image world_closed.image t old
      (others_step k world_wrote (put_file attr bs) (put_file (archived attr) bs) n slot stands_wrote (close 0 stamp) makes_closed t i d)
      (same_stamp k world_created.image world_wrote.image t old
      (others_step k world_created (put_file attr []) (put_file attr bs) n slot stands_created (write 0 bs) makes_wrote t i d)
      (same_stamp k w.image world_created.image t old
      (others_step k w fs (put_file attr []) n slot x.stands (create s attr stamp) makes_created t i d) h))

  -- ---- all three

  pub file_answers : answered w (file_calls s attr bs stamp) ≡ (0, 0) ∷ (0, length bs) ∷ (0, 0) ∷ []
  file_answers = three (ap told created) (ap told wrote) (ap told closed)

  pub file_made : n + 1 < root_entries k
      → HasFiles k (run w (file_calls s attr bs stamp)) (put_file (archived attr) bs) (n + 1) (free - clusters_for (cluster_bytes k) (length bs))
  file_made h = record {
    stands = record { begins = stands_closed.begins; shows = stands_closed.shows; above = λ t i j. stands_closed.above t (omega arith) j };
    never = stands_closed.above (n + 1) (omega arith) h;
    below = λ t i. elim (ℕ_discrete t n) [
      | yes e ↦ (file name (archived attr) bs, put_same fs n (Some (file name (archived attr) bs)) t e)
      | no d ↦ let y = x.below t (omega arith) in (y.0, put_other fs n (Some (file name (archived attr) bs)) t d ∙ y.1)
    ];
    free_are = omega (arith, free_closed, free_wrote);
    out_of_use_none = out_of_use_closed;
    table = table_closed;
  }
