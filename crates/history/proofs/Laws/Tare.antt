-- The tare through a run: no call alters it, and after each call the next one meets it guarded as before. It may be opened for
-- reading on the way.
use Rattle.std.specs.Prelude.{ℕ, ◌+◌, true, List, [], ◌∷◌, ◌≡◌, refl, get_or, Option}
use Rattle.std.proofs.Common.{arith, inl, inr, sym, ap, ◌∙◌, subst}
use Rattle.std.proofs.Math.Decide.{ℕ_discrete}
use Rattle.diskette.specs.Places.{slot_at}
use Rattle.diskette.specs.declared.Kind.{Kind}
use Rattle.directory.specs.Entries.{SameBytes}
use Rattle.calls.specs.Refusals.{read_only}
use Rattle.calls.proofs.Laws.Ready.{on_kind_lem}
use Rattle.changes.specs.Files.{File, ShowsAt}
use Rattle.history.specs.Aids.Ours.{step, run}
use Rattle.history.specs.Promises.{Given, AllGiven, Begins, SameFile}
use Rattle.history.specs.Tare.{Tare, SetsMode, NoModeSet, TareStays}
use Rattle.history.specs.World.{World, Call, ours, look, open_file, create, read, write, seek, close, delete, rename, mode}
use Rattle.history.proofs.Laws.Begins.{on}
use Rattle.history.proofs.Laws.Came.{came_entries, came_others}
use Rattle.history.proofs.Laws.EveryCall.{came}
use Rattle.history.proofs.Laws.Looks.{looks_alter_nothing}
use Rattle.history.proofs.Laws.Refused.{refusals_leave_all}
use Rattle.history.proofs.Laws.Runs.{begins_step, begins_run}
use Rattle.history.proofs.Laws.TareCalls.{Guarded, Spares, delete_spares, rename_spares, mode_spares, open_spares}
use Rattle.history.proofs.Laws.TareCalls.{read_spares, seek_spares, write_spares, close_spares, create_spares}
use Rattle.history.proofs.Laws.TarePlaces.{Watched, closed_watched}

pub tare_guarded : (k : Kind) (w : World) (s : ℕ) → Tare k w s → Guarded k w s
tare_guarded k w s x = record { is_file = x.is_file; marked = x.marked; places = closed_watched w.table s x.closed }

-- ---- one call

module _ (k : Kind) (w : World) (b : Begins k w) (s : ℕ) (g : Guarded k w s) where
  -- a call that leaves the world
  same_spares : (c : Call) → step w c ≡ w → Spares k w s c (ours c w)
  same_spares c e = record { image = inl (ap (λ (x : World). x.image) e); places = subst (λ (x : World). Watched x.table s) (sym e) g.places }

  pub spared : (c : Call) → ¬ SetsMode ours k w c s → Spares k w s c (ours c w)
  spared (look x) u = same_spares (look x) (looks_alter_nothing w x)
  spared (open_file name access) u = open_spares k w (on b) s g name access
  spared (create name attr stamp) u = create_spares k w (on b) s g name attr stamp
  spared (read h buffer) u = read_spares k w (on b) s g h buffer
  spared (write h bs) u = write_spares k w (on b) s g h bs
  spared (seek h method offset) u = seek_spares k w (on b) s g h method offset
  spared (close h stamp) u = close_spares k w (on b) s g h stamp
  spared (delete name) u = delete_spares k w (on b) s g name
  spared (rename name new) u = rename_spares k w (on b) s g name new
  spared (mode name function attr) u = elim (ℕ_discrete (ours (mode name function attr) w).number 0) [
    | yes e ↦ mode_spares k w (on b) s g name function attr
        (λ q x. u (record { name = name; attr = attr; call = ap (λ (f : ℕ). mode name f attr) q; named = x; well = e }))
    | no n ↦ same_spares (mode name function attr) (refusals_leave_all w (mode name function attr) n)
  ]

  module _ (c : Call) (given : Given c) (u : ¬ SetsMode ours k w c s) where
    same_entry : SameBytes (step w c).image (slot_at k s) w.image (slot_at k s)
    same_entry = elim (spared c u).image [
      | inl e ↦ λ j h. ap (λ (l : List ℕ). get_or l (slot_at k s + j) 0) e
      | inr n ↦ came_entries k w c b (came k w c b given) s g.is_file.below n
    ]

    same_shows : (o : Option File) → ShowsAt k w.image s o → ShowsAt k (step w c).image s o
    same_shows o h = elim (spared c u).image [
      | inl e ↦ subst (λ (l : List ℕ). ShowsAt k l s o) (sym e) h
      | inr n ↦ came_others k w c b (came k w c b given) s n o h
    ]

    -- its attribute, and the first byte of its name
    same_attr : get_or (step w c).image (slot_at k s + 11) 0 ≡ get_or w.image (slot_at k s + 11) 0
    same_attr = same_entry 11 (omega arith)

    same_first : get_or (step w c).image (slot_at k s) 0 ≡ get_or w.image (slot_at k s) 0
    same_first = let z : slot_at k s + 0 ≡ slot_at k s = omega arith in rw z at (same_entry 0 (omega arith))

    marked_still : read_only (step w c).image s ≡ true
    unfolding read_only
    marked_still = rw (on_kind_lem (step w c).image k (on (begins_step k w c b given)), same_attr) (rw (on_kind_lem w.image k (on b)) at g.marked)

    pub guarded_still : Guarded k (step w c) s
    guarded_still =
        let live = g.is_file.plain.0 in
        record {
          is_file = record {
            below = g.is_file.below;
            plain = ((λ z. live.0 (sym same_first ∙ z), λ z. live.1 (sym same_first ∙ z)), rw same_attr g.is_file.plain.1);
          };
          marked = marked_still;
          places = (spared c u).places;
        }

-- ---- any run

guarded_stays : (k : Kind) (s : ℕ) (cs : List Call) (w : World) → Begins k w → Guarded k w s → AllGiven cs → NoModeSet ours k w cs s
    → SameFile k s w.image (run w cs).image
guarded_stays k s [] w b g given unset = (λ j h. refl, λ o h. h)
guarded_stays k s (c ∷ cs) w b g given unset =
    let rest
    = guarded_stays k s cs (step w c) (begins_step k w c b given.0) (guarded_still k w b s g c given.0 unset.0) given.1 unset.1 in
    (λ j h. rest.0 j h ∙ same_entry k w b s g c given.0 unset.0 j h, λ o h. rest.1 o (same_shows k w b s g c given.0 unset.0 o h))

pub tare_stays : TareStays ours
tare_stays k w b ds g s x cs = guarded_stays k s cs (run w ds) (begins_run k ds w b g) (tare_guarded k (run w ds) s x)
