-- The handle of an open or create, in our library: it reaches the file that the call names.
use Rattle.std.specs.Prelude.{ℕ, ◌<◌, false, ◌≡◌}
use Rattle.std.proofs.Common.{arith, subst}
use mathlib.Core.List.{List, []}
use Rattle.std.proofs.Math.Path.{refl}
use Rattle.diskette.specs.Places.{slot_at, root_entries}
use Rattle.diskette.specs.declared.Kind.{Kind}
use Rattle.stamps.specs.declared.Stamp.{Stamp}
use Rattle.opened.specs.Places.{LivePlace}
use Rattle.opened.specs.Records.{with_record}
use Rattle.opened.proofs.Laws.Stores.{record_only, record_holds}
use Rattle.opened.proofs.Laws.Uses.{only_count}
use Rattle.opening.specs.Open.{open_effect, open_outcome}
use Rattle.calls.proofs.Laws.Ready.{on_usable}
use Rattle.sound.specs.Files.{IsFile}
use Rattle.history.specs.Aids.Ours.{step, run}
use Rattle.history.specs.Handles.{HandedOut, HandsOut, HandsOutItsFile}
use Rattle.history.specs.Promises.{Begins}
use Rattle.history.specs.World.{World, Call, ours, open_file, create}
use Rattle.history.proofs.Laws.Begins.{on}
use Rattle.history.proofs.Laws.FileStays.{created_file}
use Rattle.history.proofs.Laws.OneNamed.{names_one}
use Rattle.history.proofs.Laws.Rows.{image_stays}
use Rattle.history.proofs.Laws.Runs.{begins_run}
use Rattle.history.proofs.Laws.TableStored.{Took, open_took, open_file_lem, create_took}

module _ (k : Kind) (w : World) (b : Begins k w) where
  -- ---- what is handed out

  handed : (c : Call) (access s : ℕ) → Took k w c access s (ours c w) → IsFile k (step w c).image s
      → HandedOut k w (step w c) (ours c w).value access s
  handed c access s x i =
      let t = w.table in
      let p = (ours c w).value in
      let only = record_only t p x.lowest.0.0 access s 0 false in
      let small : s < 4294967296 = omega (arith, i.below, (on_usable w.image k (on b)).few_slots) in
      let y = record_holds t p x.lowest.0.0 access s 0 false small (omega arith) in
      let m = with_record t p access s 0 false in
      let live : LivePlace m p (step w c).image (slot_at k) (root_entries k) = record {
        counted = rw (only_count p m t only) x.lowest.0.0;
        used = y.used;
        access = rw y.access x.access_fits;
        slot = rw y.slot i.below;
        plain = rw y.slot i.plain;
      } in
      record { lowest = x.lowest; holds = rw x.table y; reaches = rw x.table (record { live = live; slot = y.slot }) }

  open_image : (name : List ℕ) (access : ℕ) → (step w (open_file name access)).image ≡ w.image
  unfolding open_outcome
  open_image name access = image_stays _ (open_effect w.image w.table name access) w.image w.table [] refl

  open_hands : (name : List ℕ) (access : ℕ) → HandsOut ours k w (open_file name access) access
  open_hands name access well s named =
      let c = open_file name access in
      let x = open_took k w (on b) name access well in
      let e = names_one k w (on b) _ s c x.named named in
      handed c access s (subst (λ (i : ℕ). Took k w c access i (ours c w)) e x)
      (rw (open_image name access) (subst (IsFile k w.image) e (open_file_lem k w (on b) name access well)))

  create_hands : (name : List ℕ) (attr : ℕ) (stamp : Stamp) → HandsOut ours k w (create name attr stamp) 2
  create_hands name attr stamp well s named =
      let c = create name attr stamp in
      let x = create_took k w (on b) name attr stamp well in
      let e = names_one k w (on b) x.0 s c x.1.named named in
      handed c 2 s (subst (λ (i : ℕ). Took k w c 2 i (ours c w)) e x.1) (created_file k w b name attr stamp s well named)

pub hands_out_its_file : HandsOutItsFile ours
hands_out_its_file k w b cs g = let after = begins_run k cs w b g in (open_hands k (run w cs) after, create_hands k (run w cs) after)
