-- From one call to any run of them.
use Rattle.std.specs.Prelude.{List, [], ◌∷◌, refl}
use Rattle.std.proofs.Common.{sym, subst}
use Rattle.diskette.specs.declared.Kind.{Kind}
use Rattle.changes.specs.Files.{Files, Shows, ShowsAt}
use Rattle.history.specs.Aids.Ours.{step, run}
use Rattle.history.specs.History.{History}
use Rattle.history.specs.Promises.{Given, AllGiven, Begins}
use Rattle.history.specs.World.{World, Call, ours}
use Rattle.history.proofs.Laws.Came.{came_begins, came_after, came_shows}
use Rattle.history.proofs.Laws.EveryCall.{came}

module _ (k : Kind) where
  pub begins_step : (w : World) (c : Call) → Begins k w → Given c → Begins k (step w c)
  begins_step w c b g = came_begins k w c b (came k w c b g)

  pub begins_run : (cs : List Call) (w : World) → Begins k w → AllGiven cs → Begins k (run w cs)
  begins_run [] w b g = b
  begins_run (c ∷ cs) w b g = begins_run cs (step w c) (begins_step w c b g.0) g.1

  -- the files of a run: there are some, and the volume shows them
  pub history_run : (cs : List Call) (w : World) → Begins k w → AllGiven cs → (fs : Files) → (gs : Files) × History ours k w cs fs gs
  history_run [] w b g fs = (fs, λ s. refl)
  history_run (c ∷ cs) w b g fs =
      let a = came_after k w c b (came k w c b g.0) fs in
      let r = history_run cs (step w c) (begins_step w c b g.0) g.1 a.0 in
      (r.0, (a.0, a.1, r.1))

  pub shows_run : (cs : List Call) (w : World) → Begins k w → AllGiven cs → (fs gs : Files) → History ours k w cs fs gs
      → Shows k w.image fs → Shows k (run w cs).image gs
  shows_run [] w b g fs gs h x = λ s. subst (ShowsAt k w.image s) (sym (h s)) (x s)
  shows_run (c ∷ cs) w b g fs gs h x =
      shows_run cs (step w c) (begins_step w c b g.0) g.1 h.0 gs h.2 (came_shows k w c b (came k w c b g.0) fs h.0 h.1 x)
