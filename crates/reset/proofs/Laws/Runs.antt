-- A file through a run of calls: it is the same after each.
use Rattle.std.specs.Prelude.{ℕ, List, [], ◌∷◌, ◌≡◌}
use Rattle.std.proofs.Common.{sym, subst}
use Rattle.diskette.specs.declared.Kind.{Kind}
use Rattle.sound.specs.Files.{IsFile, ChainOf}
use Rattle.history.specs.Aids.Ours.{step, run}
use Rattle.history.specs.Aids.Came.{Came, idle, stays, changes}
use Rattle.history.specs.Promises.{Given, AllGiven, Begins}
use Rattle.history.specs.Meant.{Names}
use Rattle.history.specs.World.{World, Call}
use Rattle.history.proofs.Laws.Begins.{on}
use Rattle.history.proofs.Laws.Runs.{begins_step}
use Rattle.reset.specs.Aids.Same.{SameIn}
use Rattle.reset.proofs.Laws.Same.{same_self, same_then, same_changed, same_file, same_chain}

-- ---- one call

module _ (k : Kind) (w : World) (b : Begins k w) (s : ℕ) (i : IsFile k w.image s) (cs : List ℕ) (own : ChainOf k w.image s cs) (c : Call) where
  pub unchanged : (step w c).image ≡ w.image → SameIn k s cs w.image (step w c).image
  unchanged e = subst (SameIn k s cs w.image) (sym e) (same_self k s cs w.image)

  -- that does not name the slot
  pub same_call : Came k w c → ¬ Names c k w s → SameIn k s cs w.image (step w c).image
  same_call (idle z e) n = unchanged e
  same_call (stays r d e h) n = unchanged e
  same_call (changes r ds d x) n =
      same_changed k w.image (on b) s i cs own (step w c).image r ds x.changed (λ q. n (subst (Names c k w) (sym q) d.named))

-- ---- any run

-- R holds of a world and the calls that are to come: then the first of them leaves the file as it is, and R holds after it
module _ (k : Kind) (s : ℕ) (ds : List ℕ) (R : World → List Call → Type 0)
    (one : (w : World) (c : Call) (cs : List Call) → Begins k w → Given c → R w (c ∷ cs) → IsFile k w.image s → ChainOf k w.image s ds
    → SameIn k s ds w.image (step w c).image)
    (next : (w : World) (c : Call) (cs : List Call) → Begins k w → Given c → R w (c ∷ cs) → R (step w c) cs) where
  pub same_run : (cs : List Call) (w : World) → Begins k w → AllGiven cs → R w cs → IsFile k w.image s → ChainOf k w.image s ds
      → SameIn k s ds w.image (run w cs).image
  same_run [] w b g r i own = same_self k s ds w.image
  same_run (c ∷ cs) w b g r i own =
      let x = one w c cs b g.0 r i own in
      let rest = same_run cs (step w c) (begins_step k w c b g.0) g.1 (next w c cs b g.0 r)
      (same_file k w.image (on b) s i ds own (step w c).image x) (same_chain k w.image (on b) s i ds own (step w c).image x) in
      same_then k s ds w.image (step w c).image (run (step w c) cs).image x rest

  -- R holds after the run
  pub held_run : (cs : List Call) (w : World) → Begins k w → AllGiven cs → R w cs → R (run w cs) []
  held_run [] w b g r = r
  held_run (c ∷ cs) w b g r = held_run cs (step w c) (begins_step k w c b g.0) g.1 (next w c cs b g.0 r)
