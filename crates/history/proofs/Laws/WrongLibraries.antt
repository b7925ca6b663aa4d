-- The wrong libraries are refused: each alters a file that its caller did not name. The volume is any that has files in its first
-- slots, and what is given is fit for a new file.
use Rattle.std.specs.Prelude.{ℕ, ◌<◌, Bool, true, not, List, [], ◌≢◌, ◌≡◌, refl, length, take, Option, Some, None}
use Rattle.std.proofs.Common.{arith, inl, inr, sym, ap, ◌∙◌, subst}
use borrow.Author.Tests.{ne_eqb, lt-ltb}
use Rattle.chains.specs.Write.{written}
use Rattle.diskette.specs.Places.{root_entries, slot_at}
use Rattle.diskette.specs.declared.Kind.{Kind}
use Rattle.fields.specs.Fields.{with_entry}
use Rattle.directory.proofs.Laws.Entries.{fresh}
use Rattle.directory.proofs.Laws.Slots.{plain_is}
use Rattle.names.specs.Reading.{name_given, name_bytes}
use Rattle.search.specs.Search.{is_found}
use Rattle.stamps.specs.declared.Stamp.{Stamp}
use Rattle.opened.specs.Places.{LivePlace, lowest_unused}
use Rattle.opened.specs.Records.{used_of, slot_of, pointer_of}
use Rattle.calls.specs.Refusals.{file_found}
use Rattle.calls.specs.Aids.Ready.{OnVolume}
use Rattle.calls.proofs.Laws.Files.{slot_within}
use Rattle.calls.proofs.Laws.Ready.{on_kind_lem}
use Rattle.deleting.specs.Delete.{erased_in}
use Rattle.freeing.specs.Freed.{chain_freed}
use Rattle.sound.specs.Files.{IsFile}
use Rattle.putting.specs.Written.{written_in}
use Rattle.writing.specs.Write.{write_count, write_effect}
use Rattle.changes.specs.Files.{File, Files, Holds, Shows, ShowsAt}
use Rattle.changes.proofs.Laws.Changed.{changed_on}
use Rattle.changes.proofs.Laws.Emptied.{file_emptied}
use Rattle.changes.proofs.Laws.NewSlot.{none_of_name, lowest_vacant_lem}
use Rattle.changes.proofs.Laws.Wrote.{wrote_changed, wrote_holds}
use Rattle.history.specs.Aids.WrongLibraries.{file_in, erases_first, takes_first, writes_through}
use Rattle.history.specs.Meant.{HasName, Names}
use Rattle.history.specs.Promises.{Given, Begins, NamesAFile}
use Rattle.history.specs.World.{World, Call, Look, Library, world, step_by, look, create, write, delete}
use Rattle.history.proofs.Laws.Begins.{on}
use Rattle.history.proofs.Laws.Count.{taken_fits}
use Rattle.history.proofs.Laws.Ended.{delete_ends}
use Rattle.history.proofs.Laws.EndsWell.{create_well, count_all}
use Rattle.history.proofs.Laws.Given.{given_create, given_write, given_delete}
use Rattle.history.proofs.Laws.HasFiles.{HasFiles, GoodFile}
use Rattle.history.proofs.Laws.Meant.{no_name}
use Rattle.history.proofs.Laws.OneFile.{take_all}
use Rattle.history.proofs.Laws.Shown.{holds_bytes}
use Rattle.history.proofs.Laws.Spoils.{Spoils}

-- delete and write do not only look
delete_acts : {name : List ℕ} (x : Look) → delete name ≢ look x
delete_acts x e = let z : ◌≡◌ {A = ℕ} 0 1 = cc in omega arith

write_acts : {h : ℕ} {bs : List ℕ} (x : Look) → write h bs ≢ look x
write_acts x e = let z : ◌≡◌ {A = ℕ} 0 1 = cc in omega arith

-- the file f stands in slot 0, and a new file may have this name, attribute, stamp and bytes
pub record Scene (k : Kind) (w : World) (fs : Files) (f : File) (name : List ℕ) (attr : ℕ) (bs : List ℕ) (stamp : Stamp) : Type 0 where
  pub next : ℕ
  pub free : ℕ
  pub has : HasFiles k w fs next free
  pub below : next < root_entries k
  pub here : fs 0 ≡ Some f
  pub good : GoodFile k fs free name attr bs stamp

module _ {k : Kind} {w : World} {fs : Files} {f : File} {name : List ℕ} {attr : ℕ} {bs : List ℕ} {stamp : Stamp}
    (x : Scene k w fs f name attr bs stamp) (t : List ℕ) where
  abbrev l : List ℕ
  l = w.image

  abbrev g : GoodFile k fs x.free name attr bs stamp
  g = x.good

  shown : Shows k l fs
  shown = x.has.stands.shows

  -- the same image, with the open table t
  abbrev u : World
  u = world l t

  begins : Begins k u
  begins = let b = x.has.stands.begins in record { of_kind = b.of_kind; sound = b.sound; bytes = b.bytes }

  v : OnVolume l k
  v = on begins

  first_holds : Holds k l 0 f
  first_holds = subst (ShowsAt k l 0) x.here (shown 0)

  first_file : IsFile k l 0
  first_file = first_holds.is_file

  file_in_lem : file_in l 0 ≡ true
  file_in_lem = rw (on_kind_lem l k v, lt-ltb 0 (root_entries k) first_file.below, (plain_is l (slot_at k 0)).1 first_file.plain)

  none_named : file_found l name ≡ None
  none_named = none_of_name k l v fs shown name g.long g.new_name

  no_file_lem : (s : ℕ) → ¬ HasName k l name s
  no_file_lem = no_name k l v name g.fits (ap (λ (f : Option ℕ). not (is_found f)) none_named)

  -- a call that makes the image m, in which slot 0 does not hold f, and does not name slot 0
  spoils : (lib : Library) (c : Call) (m : List ℕ) → Given c → ¬ Names c k u 0 → (step_by lib u c).image ≡ m → ¬ Holds k m 0 f → Spoils lib
  spoils lib c m given unnamed e gone = record {
    kind = k;
    before = u;
    begins = begins;
    files = fs;
    shows = shown;
    call = c;
    given = given;
    slot = 0;
    below = first_file.below;
    unnamed = unnamed;
    gone = λ y. gone (subst (λ (i : List ℕ). ShowsAt k i 0 (Some f)) e (subst (ShowsAt k (step_by lib u c).image 0) x.here y));
  }

  -- ---- delete of a name that no file has

  erased : (step_by erases_first u (delete name)).image ≡ erased_in k l 0
  erased = rw (none_named, file_in_lem, on_kind_lem l k v)

  pub erases_first_spoils : Spoils erases_first
  erases_first_spoils = spoils erases_first (delete name) (erased_in k l 0) (given_delete name) (no_file_lem 0) erased
      (λ y. delete_ends k l v begins.bytes 0 first_file y.is_file)

  -- it names no file, and ends well all the same
  pub erases_first_strays : ¬ NamesAFile erases_first
  erases_first_strays keeps =
      let r = keeps k u begins [] tt (delete name) (given_delete name) delete_acts (rw (none_named, file_in_lem)) in
      no_file_lem r.0 r.1

  -- ---- create of a new name, with place 0 in use

  abbrev remade : List ℕ
  remade = with_entry (chain_freed k l (slot_at k 0)) (slot_at k 0) (name_bytes (name_given name)) attr g.time g.date 0 0

  not_named : ¬ Names (create name attr stamp) k u 0
  not_named (inl y) = no_file_lem 0 y
  not_named (inr y) = elim y.lowest.0.1 [ inl z ↦ first_file.plain.0.1 z | inr z ↦ first_file.plain.0.0 z ]

  other_name : ¬ Holds k remade 0 f
  other_name y =
      let long = (file_emptied k l v begins.bytes 0 first_file).frame.long in
      let fits = slot_within l k v 0 (slot_at k 0) first_file.below refl in
      let made = fresh (name_bytes (name_given name)) attr g.time g.date 0 0 g.long (chain_freed k l (slot_at k 0)) (slot_at k 0) (rw long fits) in
      g.new_name 0 f x.here (sym y.name ∙ (made g.small_time g.small_date (omega arith) (omega arith)).name)

  pub takes_first_spoils : used_of t 0 ≡ true → (p : ℕ) → lowest_unused t ≡ Some p → Spoils takes_first
  takes_first_spoils used p place =
      let lowest = lowest_vacant_lem k l v fs shown x.next x.below x.has.below x.has.never in
      let o = create_well k u v name attr stamp g.time g.date x.next p g.fits g.stamped g.may none_named lowest place in
      let e : (step_by takes_first u (create name attr stamp)).image ≡ remade = rw (o, none_named, used, file_in_lem, g.stamped, on_kind_lem l k v) in
      spoils takes_first (create name attr stamp) remade (given_create name attr stamp) not_named e other_name

  -- ---- write through a place that is not live, but has slot 0

  module _ (lets : List ℕ → ℕ → Bool) (passes : lets t 0 ≡ true) (at : slot_of t 0 ≡ 0) (pointer : pointer_of t 0 ≡ 0)
      (dead : ¬ LivePlace t 0 l (slot_at k) (root_entries k)) where
    abbrev m : List ℕ
    m = written_in k l (slot_at k 0) 0 (take (length bs) bs)

    count : write_count k l (slot_at k 0) 0 (length bs) ≡ length bs
    count = count_all k u v 0 (length bs) (rw x.has.free_are g.room)

    wrote : ((step_by (writes_through lets) u (write 0 bs)).image ≡ m) × ((writes_through lets (write 0 bs) u).number ≡ 0)
    unfolding write_effect
    wrote = rw (passes, at, file_in_lem, on_kind_lem l k v, pointer, count, ne_eqb (length bs) 0 (omega (arith, g.some_bytes))) (refl, refl)

    -- the file has other bytes then
    other_bytes : written f.bytes 0 bs ≢ f.bytes → ¬ Holds k m 0 f
    other_bytes differ y =
        let many : write_count k l (slot_at k 0) 0 (length bs) ≢ 0 = λ z. let q : length bs ≡ 0 = sym count ∙ z in omega (arith, g.some_bytes) in
        let p = rw count at (taken_fits k l 0 0 bs v first_file begins.bytes many) in
        let after = changed_on k l v m 0 _ (wrote_changed k l 0 0 (take (length bs) bs) first_file p) in
        let e = sym (holds_bytes k m after 0 _ (wrote_holds k l 0 0 (take (length bs) bs) first_file p f first_holds)) ∙ holds_bytes k m after 0 f y in
        differ (rw (take_all bs) at e)

    pub writes_through_spoils : written f.bytes 0 bs ≢ f.bytes → Spoils (writes_through lets)
    writes_through_spoils differ =
        spoils (writes_through lets) (write 0 bs) m (given_write 0 bs g.bytes) (λ y. dead y.live) wrote.0 (other_bytes differ)

    pub writes_through_strays : ¬ NamesAFile (writes_through lets)
    writes_through_strays keeps =
        dead (keeps k u begins [] tt (write 0 bs) (given_write 0 bs g.bytes) write_acts wrote.1).1.live
