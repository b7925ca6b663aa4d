-- One call of which it is known which slot it names, on a volume whose slots above it were never used.
use Rattle.std.specs.Prelude.{ℕ, ◌+◌, ◌<◌, Bool, ◌≢◌, ◌≡◌, refl}
use Rattle.std.proofs.Common.{arith, ◌∙◌}
use Rattle.chains.specs.Aids.Values.{OutOfUse}
use Rattle.diskette.specs.Places.{last_cluster, root_entries, slot_at}
use Rattle.diskette.specs.declared.Kind.{Kind}
use Rattle.directory.specs.Entries.{SameBytes}
use Rattle.directory.specs.Aids.Entries.{SameFields}
use Rattle.directory.specs.Slots.{NeverUsedAt}
use Rattle.directory.proofs.Laws.Entries.{same_fields}
use Rattle.sound.specs.Counts.{clusters_with}
use Rattle.calls.proofs.Laws.Files.{slot_within}
use Rattle.changes.specs.Files.{Files, Shows}
use Rattle.history.specs.Aids.Ours.{step}
use Rattle.history.specs.Aids.Came.{Came, Does}
use Rattle.history.specs.History.{Becomes}
use Rattle.history.specs.Promises.{Given, Begins}
use Rattle.history.specs.World.{World, Call, ours}
use Rattle.history.proofs.Laws.Begins.{on}
use Rattle.history.proofs.Laws.Came.{came_begins, came_shows, came_entries, after_does}
use Rattle.history.proofs.Laws.EveryCall.{came}
use Rattle.history.proofs.Laws.OneNamed.{names_one}
use Rattle.history.proofs.Laws.Room.{out_of_use_after}

-- the volume has these files, and the slots above n were never used
pub record Stands (k : Kind) (w : World) (fs : Files) (n : ℕ) : Type 0 where
  pub begins : Begins k w
  pub shows : Shows k w.image fs
  pub above : (t : ℕ) → n < t → t < root_entries k → NeverUsedAt w.image (slot_at k t)

-- the call c ends well on slot n, and makes gs of the files fs
pub record Makes (k : Kind) (w : World) (c : Call) (n : ℕ) (fs gs : Files) : Type 0 where
  pub given : Given c
  pub does : Does k w c n
  pub becomes : Becomes c w (ours c w) (fs n) (gs n)
  pub others : (t : ℕ) → t ≢ n → gs t ≡ fs t

module _ (k : Kind) (w : World) (fs gs : Files) (n : ℕ) (below : n < root_entries k) (x : Stands k w fs n) (c : Call) (y : Makes k w c n fs gs) where
  abbrev comes : Came k w c
  comes = came k w c x.begins y.given

  same_entry : (t : ℕ) → t < root_entries k → t ≢ n → SameBytes (step w c).image (slot_at k t) w.image (slot_at k t)
  same_entry t i d = came_entries k w c x.begins comes t i (λ q. d (names_one k w (on x.begins) t n c q y.does.named))

  pub stands_step : Stands k (step w c) gs n
  stands_step = record {
    begins = came_begins k w c x.begins comes;
    shows = came_shows k w c x.begins comes fs gs (after_does k w c x.begins n y.does fs gs y.becomes y.others) x.shows;
    above = λ t h i.
        let z : slot_at k t + 0 ≡ slot_at k t = omega arith in
        (rw z at (same_entry t i (λ e. omega arith) 0 (omega arith))) ∙ x.above t h i;
  }

  -- every other entry
  pub others_step : (t : ℕ) → t < root_entries k → t ≢ n → SameFields (step w c).image (slot_at k t) w.image (slot_at k t)
  others_step t i d =
      same_fields (step w c).image w.image (slot_at k t) (slot_at k t)
      (slot_within (step w c).image k (on stands_step.begins) t (slot_at k t) i refl)
      (slot_within w.image k (on x.begins) t (slot_at k t) i refl)
      (same_entry t i d)

  pub out_of_use_step : (t : ℕ → Bool) → OutOfUse (last_cluster k) t → clusters_with t k (step w c).image ≡ clusters_with t k w.image
  out_of_use_step = out_of_use_after k w c x.begins comes
