-- A file that no call names through a run and a torn save, and rescued then.
use Rattle.std.specs.Prelude.{ℕ, List}
use Rattle.diskette.specs.declared.Kind.{Kind}
use Rattle.sound.specs.Files.{IsFile}
use Rattle.changes.specs.Files.{File, Holds}
use Rattle.history.specs.Aids.Ours.{run}
use Rattle.history.specs.Promises.{AllGiven, Begins}
use Rattle.history.specs.World.{World, Call, ours}
use Rattle.history.proofs.Laws.Begins.{on}
use Rattle.history.proofs.Laws.EveryCall.{came}
use Rattle.history.proofs.Laws.Runs.{begins_run}
use Rattle.reset.specs.Torn.{Torn, Stands}
use Rattle.reset.specs.Promises.{NoneNames, Rescued, OthersThroughReset, OthersRescuedAfterReset}
use Rattle.reset.proofs.Laws.Rescued.{rescued_by_name}
use Rattle.reset.proofs.Laws.Runs.{same_call, same_run}
use Rattle.reset.proofs.Laws.Same.{same_self}
use Rattle.reset.proofs.Laws.Stands.{torn_kind, torn_stands}

module _ (k : Kind) (w : World) (b : Begins k w) (s : ℕ) (cs : List Call) (g : AllGiven cs) (u : NoneNames ours k w cs s) (m : List ℕ) (t : Torn w.image (run w cs).image m) where
  saving : Begins k (run w cs)
  saving = begins_run k cs w b g

  stands : IsFile k w.image s → Stands k s w.image m
  stands i =
      let es = b.sound.0 s in
      let own = b.sound.1.chains s i in
      let since = same_run k s es (λ v ds. NoneNames ours k v ds s) (λ v c ds x y r j o. same_call k v x s j es o c (came k v c x y) r.0) (λ v c ds x y r. r.1)
      cs w b g u i own in
      torn_stands k w.image (run w cs).image m (on b) (on saving) t w.image (on b) s i es own b.bytes saving.bytes
      (same_self k s es w.image) since

  brought : (f : File) → Holds k w.image s f → Rescued ours m f
  brought f h =
      let x = stands h.is_file in
      rescued_by_name m k (torn_kind k w.image (run w cs).image m (on b) (on saving) t) s f (x.file f h) x.alone

pub others_through_reset : OthersThroughReset ours
others_through_reset k w b ds h s i cs g u m t = stands k (run w ds) (begins_run k ds w b h) s cs g u m t i

pub others_rescued_after_reset : OthersRescuedAfterReset ours
others_rescued_after_reset k w b ds h s f x cs g u m t = brought k (run w ds) (begins_run k ds w b h) s cs g u m t f x
