-- A handle that reaches a file keeps it until it is closed.
use Rattle.std.specs.Prelude.{ℕ, List, ◌≡◌}
use Rattle.std.proofs.Math.Decide.{ℕ_discrete}
use Rattle.std.proofs.Common.{sym, ◌∙◌, subst}
use Rattle.diskette.specs.Places.{slot_at, root_entries}
use Rattle.diskette.specs.declared.Kind.{Kind}
use Rattle.stamps.specs.declared.Stamp.{Stamp}
use Rattle.opened.specs.Places.{LivePlace}
use Rattle.opened.specs.Records.{slot_of}
use Rattle.opened.proofs.Laws.Places.{closed_is}
use Rattle.sound.specs.Files.{IsFile}
use Rattle.history.specs.Aids.Ours.{step, run}
use Rattle.history.specs.Aids.Came.{Does}
use Rattle.history.specs.Handles.{HandlesKeepTheirFiles}
use Rattle.history.specs.Meant.{Reaches}
use Rattle.history.specs.Promises.{Given, Begins}
use Rattle.history.specs.World.{World, Call, ours, close, delete}
use Rattle.history.proofs.Laws.Begins.{on}
use Rattle.history.proofs.Laws.FileStays.{Erases, file_stays}
use Rattle.history.proofs.Laws.PlaceKept.{kept}
use Rattle.history.proofs.Laws.Refused.{refusals_leave_all}
use Rattle.history.proofs.Laws.Runs.{begins_run}
use Rattle.history.proofs.Laws.TableStored.{delete_closed}

module _ (k : Kind) (w : World) (b : Begins k w) where
  module _ (c : Call) (h s : ℕ) (live : LivePlace w.table h w.image (slot_at k) (root_entries k)) (at : slot_of w.table h ≡ s) where
    -- the file of a live place is open, so no delete of it ends well
    not_erased : ¬ Erases k w c s
    not_erased x = erased x.name x.call
      where
        erased : (name : List ℕ) → c ≡ delete name → ⊥
        erased name e =
            let d = subst (λ (i : Call). Does k w i s) e x.does in
            (closed_is w.table s).0 (delete_closed k w (on b) name d.well s d.named) h live.counted
            (record { used = live.used; names = at })

    live_still : Given c → (ours c w).number ≡ 0 → ((stamp : Stamp) → ¬ (c ≡ close h stamp))
        → LivePlace (step w c).table h (step w c).image (slot_at k) (root_entries k) × (slot_of (step w c).table h ≡ s)
    live_still given well other =
        let x = kept k w (on b) h live.counted live.used c well other in
        let y = x.same in
        let slot = y.slot ∙ at in
        let i = file_stays k w b c s (subst (IsFile k w.image) at (record { below = live.slot; plain = live.plain })) not_erased given in (
          record {
            counted = rw x.count live.counted;
            used = y.used ∙ live.used;
            access = rw y.access live.access;
            slot = rw slot i.below;
            plain = rw slot i.plain;
          },
          slot,
        )

  well_keeps : (c : Call) → Given c → (h s : ℕ) → Reaches k w h s → (ours c w).number ≡ 0 → ((stamp : Stamp) → ¬ (c ≡ close h stamp))
      → Reaches k (step w c) h s
  well_keeps c given h s r well other = let x = live_still c h s r.live r.slot given well other in record { live = x.0; slot = x.1 }

pub handles_keep_their_files : HandlesKeepTheirFiles ours
handles_keep_their_files k v b cs g c given h s r other =
    let w = run v cs in
    elim (ℕ_discrete (ours c w).number 0) [
      | yes e ↦ well_keeps k w (begins_run k cs v b g) c given h s r e (λ stamp q. other stamp q e)
      | no n ↦ subst (λ (u : World). Reaches k u h s) (sym (refusals_leave_all w c n)) r
    ]
