-- The tare through a run of calls and a torn save, and rescued then.
use Rattle.std.specs.Prelude.{ℕ, List, ◌∷◌}
use Rattle.std.proofs.Common.{inl, inr}
use Rattle.diskette.specs.declared.Kind.{Kind}
use Rattle.sound.specs.Files.{IsFile, ChainOf}
use Rattle.changes.specs.Files.{File, Holds}
use Rattle.history.specs.Aids.Ours.{step, run}
use Rattle.history.specs.Promises.{Given, AllGiven, Begins}
use Rattle.history.specs.Tare.{Tare, NoModeSet}
use Rattle.history.specs.World.{World, Call, ours}
use Rattle.history.proofs.Laws.Begins.{on}
use Rattle.history.proofs.Laws.EveryCall.{came}
use Rattle.history.proofs.Laws.Runs.{begins_run}
use Rattle.history.proofs.Laws.Tare.{tare_guarded, spared, guarded_still}
use Rattle.history.proofs.Laws.TareCalls.{Guarded}
use Rattle.reset.specs.Torn.{Stands}
use Rattle.reset.specs.Promises.{LeftByRun, Rescued, TareThroughReset, RescuedAfterReset}
use Rattle.reset.specs.Aids.Same.{SameIn}
use Rattle.reset.proofs.Laws.Rescued.{rescued_by_name}
use Rattle.reset.proofs.Laws.Runs.{unchanged, same_call, same_run, held_run}
use Rattle.reset.proofs.Laws.Same.{same_file, same_chain}
use Rattle.reset.proofs.Laws.Stands.{torn_kind, torn_stands}

module _ (k : Kind) (s : ℕ) where
  -- it is guarded, and no call to come sets its mode
  abbrev Safe : World → List Call → Type 0
  Safe w cs = Guarded k w s × NoModeSet ours k w cs s

  module _ (ds : List ℕ) (w : World) (c : Call) (cs : List Call) (b : Begins k w) (g : Given c) (r : Safe w (c ∷ cs)) where
    safe_next : Safe (step w c) cs
    safe_next = (guarded_still k w b s r.0 c g r.1.0, r.1.1)

    -- a call that meets it guarded leaves it as it is
    same_guarded : IsFile k w.image s → ChainOf k w.image s ds → SameIn k s ds w.image (step w c).image
    same_guarded i own = elim (spared k w b s r.0 c r.1.0).image [
      | inl e ↦ unchanged k w b s i ds own c e
      | inr n ↦ same_call k w b s i ds own c (came k w c b g) n
    ]

  module _ (ds : List ℕ) (cs : List Call) (w : World) (b : Begins k w) (g : AllGiven cs) (r : Safe w cs) where
    same_safe : IsFile k w.image s → ChainOf k w.image s ds → SameIn k s ds w.image (run w cs).image
    same_safe = same_run k s ds Safe (same_guarded ds) (safe_next ds) cs w b g r

    guarded_run : Guarded k (run w cs) s
    guarded_run = (held_run k s ds Safe (same_guarded ds) (safe_next ds) cs w b g r).0

module _ (k : Kind) (w : World) (b : Begins k w) (s : ℕ) (x : Tare k w s) (cs ds : List Call) (m : List ℕ) (left : LeftByRun ours k w s cs ds m) where
  -- v is the world at the last save, run v ds that which was being saved
  abbrev v : World
  v = run w cs

  saved : Begins k v
  saved = begins_run k cs w b left.given.0

  saving : Begins k (run v ds)
  saving = begins_run k ds v saved left.given.1

  -- its clusters
  abbrev es : List ℕ
  es = b.sound.0 s

  stands : Stands k s w.image m
  stands =
      let i = x.is_file in
      let own = b.sound.1.chains s i in
      let safe : Safe k s w cs = (tare_guarded k w s x, left.no_mode.0) in
      let still : Safe k s v ds = (guarded_run k s es cs w b left.given.0 safe, left.no_mode.1) in
      let before = same_safe k s es cs w b left.given.0 safe i own in
      let since = same_safe k s es ds v saved left.given.1 still
      (same_file k w.image (on b) s i es own v.image before) (same_chain k w.image (on b) s i es own v.image before) in
      torn_stands k v.image (run v ds).image m (on saved) (on saving) left.torn w.image (on b) s i es own
      saved.bytes saving.bytes before since

  brought : (f : File) → Holds k w.image s f → Rescued ours m f
  brought f h = rescued_by_name m k (torn_kind k v.image (run v ds).image m (on saved) (on saving) left.torn) s f (stands.file f h) stands.alone

pub tare_through_reset : TareThroughReset ours
tare_through_reset k w b cs g = stands k (run w cs) (begins_run k cs w b g)

pub rescued_after_reset : RescuedAfterReset ours
rescued_after_reset k w b cs g = brought k (run w cs) (begins_run k cs w b g)
