-- What rename, file mode and close come to.
use Rattle.std.specs.Prelude.{ℕ, Bool, Option, Some, None, option_map}
use Rattle.std.proofs.Common.{arith, ◌∙◌}
use Rattle.std.proofs.Math.Bool.{true, false}
use mathlib.Core.List.{List, []}
use Rattle.std.proofs.Math.Path.{◌≡◌, refl, ap}
use Rattle.std.proofs.Math.Dec.{eqb}
use Rattle.std.proofs.lemmas.Bool.{not-false}
use Rattle.diskette.specs.Places.{slot_at}
use Rattle.diskette.specs.declared.Kind.{Kind}
use Rattle.fields.specs.Fields.{with_name, with_attr}
use Rattle.names.specs.Reading.{name_given, name_bytes}
use Rattle.stamps.specs.Stamps.{packed}
use Rattle.stamps.specs.declared.Stamp.{Stamp}
use Rattle.opened.specs.Records.{slot_of, written_of}
use Rattle.calls.specs.Outcome.{Outcome, refusal}
use Rattle.calls.specs.Refusals.{no_file, file_slot, bad_attr}
use Rattle.calls.proofs.Laws.Ready.{on_kind_lem}
use Rattle.closing.specs.Close.{archived, stamped, close_rows, close_effect, close_outcome}
use Rattle.marking.specs.Mode.{mode_rows, mode_effect, mode_outcome}
use Rattle.renaming.specs.Rename.{rename_rows, rename_effect, rename_outcome}
use Rattle.changes.specs.Files.{File, file}
use Rattle.changes.proofs.Laws.Marks.{rename_changed, rename_holds, rename_bytes, mode_changed, mode_holds, mode_bytes, close_changed, close_holds, close_bytes}
use Rattle.history.specs.Aids.Ours.{step}
use Rattle.history.specs.Aids.Came.{Does, Came, stays}
use Rattle.history.specs.Promises.{Begins}
use Rattle.history.specs.World.{World, ours, rename, mode, close}
use Rattle.history.proofs.Laws.Begins.{on}
use Rattle.history.proofs.Laws.Found.{good_name, file_there, no_file_found, live_there}
use Rattle.history.proofs.Laws.Meant.{meant_exactly, by_name, reaches}
use Rattle.history.proofs.Laws.Passed.{passed_row}
use Rattle.history.proofs.Laws.Well.{came_by, came_at}

module _ (k : Kind) (w : World) (b : Begins k w) where
  abbrev l : List ℕ
  l = w.image

  abbrev t : List ℕ
  t = w.table

  -- ---- rename

  pub came_rename : (name new : List ℕ) → Came k w (rename name new)
  unfolding rename_outcome
  came_rename name new = came_by k w (rename name new) (rename_rows l t name new) (rename_effect l t name new) [] refl (λ rows e.
      let row = passed_row (rename_rows l t name new) refl rows in
      let s = file_slot l name in
      let does : Does k w (rename name new) s
      = record { well = ap (λ (o : Outcome). o.number) e; named = by_name k w (on b) name (row 2) (row 4) } in
      let i = file_there k l (on b) name (row 4) in
      let fits = good_name new (row 3) in
      let free = no_file_found k l (on b) new (not-false (no_file l new) (row 7)) in
      let m : (step w (rename name new)).image ≡ with_name l (slot_at k s) (name_bytes (name_given new))
      = ap (λ (o : Outcome). o.image) e ∙ rw (on_kind_lem l k (on b)) in
      came_at k w (rename name new) s _ _ does m
      (rename_changed k l (on b) s i new fits free)
      (rename_bytes k l (on b) s i new fits b.bytes)
      i (λ f. file (name_bytes (name_given new)) f.attr f.bytes)
      (λ f g. meant_exactly new fits (λ n. g ≡ option_map (λ (x : File). file n x.attr x.bytes) f))
      (rename_holds k l (on b) s i new fits))

  -- ---- file mode

  pub came_mode : (name : List ℕ) (function attr : ℕ) → Came k w (mode name function attr)
  unfolding mode_outcome
  came_mode name function attr =
      came_by k w (mode name function attr) (mode_rows l t name function attr) (mode_effect l t name function attr) [] refl (by (eqb function 1) refl)
    where
      by : (sets : Bool) → eqb function 1 ≡ sets → refusal (mode_rows l t name function attr) ≡ 0
          → ours (mode name function attr) w ≡ mode_effect l t name function attr → Came k w (mode name function attr)
      by false q rows e =
          let row = passed_row (mode_rows l t name function attr) refl rows in
          stays (file_slot l name)
          (record { well = ap (λ (o : Outcome). o.number) e ∙ rw q; named = by_name k w (on b) name (row 3) (row 4) })
          (ap (λ (o : Outcome). o.image) e ∙ rw q) (λ f g. rw q (λ z. z, λ z. z))
      by true q rows e =
          let row = passed_row (mode_rows l t name function attr) refl rows in
          let s = file_slot l name in
          let does : Does k w (mode name function attr) s
          = record { well = ap (λ (o : Outcome). o.number) e ∙ rw q; named = by_name k w (on b) name (row 3) (row 4) } in
          let i = file_there k l (on b) name (row 4) in
          let may : bad_attr attr ≡ false = rw q at (row 5) in
          let m : (step w (mode name function attr)).image ≡ with_attr l (slot_at k s) attr
          = ap (λ (o : Outcome). o.image) e ∙ rw (q, on_kind_lem l k (on b)) in
          came_at k w (mode name function attr) s _ _ does m
          (mode_changed k l (on b) s i attr may)
          (mode_bytes k l (on b) s i attr may b.bytes)
          i (λ f. file f.name attr f.bytes) (λ f g. rw q (λ z. z, λ z. z))
          (mode_holds k l (on b) s i attr may)

  -- ---- close

  pub came_close : (h : ℕ) (stamp : Stamp) → Came k w (close h stamp)
  unfolding close_outcome
  came_close h stamp =
      came_by k w (close h stamp) (close_rows l t h stamp) (close_effect l t h stamp) [] refl (by (written_of t h) refl (packed stamp) refl)
    where
      by : (set : Bool) → written_of t h ≡ set → (p : Option (ℕ × ℕ)) → packed stamp ≡ p → refusal (close_rows l t h stamp) ≡ 0
          → ours (close h stamp) w ≡ close_effect l t h stamp → Came k w (close h stamp)
      by false q p pe rows e =
          let row = passed_row (close_rows l t h stamp) refl rows in
          stays (slot_of t h) (record { well = ap (λ (o : Outcome). o.number) e; named = reaches k w (on b) h (row 3) })
          (ap (λ (o : Outcome). o.image) e ∙ rw q) (λ f g. rw q (λ z. z, λ z. z))
      by true q None pe rows e =
          let row = passed_row (close_rows l t h stamp) refl rows in
          absurd (let y : true ≡ false = rw pe at (row 2) in let z : ◌≡◌ {A = ℕ} 0 1 = cc in omega arith)
      by true q (Some (time, date)) pe rows e =
          let row = passed_row (close_rows l t h stamp) refl rows in
          let s = slot_of t h in
          let does : Does k w (close h stamp) s = record { well = ap (λ (o : Outcome). o.number) e; named = reaches k w (on b) h (row 3) } in
          let i = live_there k l (on b) t h (row 3) in
          let m : (step w (close h stamp)).image ≡ stamped l (slot_at k s) time date
          = ap (λ (o : Outcome). o.image) e ∙ rw (q, pe, on_kind_lem l k (on b)) in
          came_at k w (close h stamp) s _ _ does m
          (close_changed k l (on b) s i time date)
          (close_bytes k l (on b) s i time date b.bytes)
          i (λ f. file f.name (archived f.attr) f.bytes) (λ f g. rw q (λ z. z, λ z. z))
          (close_holds k l (on b) s i time date)
