-- What the calls come to that leave the image, and so the files: those that only look, and open, read and seek.
use Rattle.std.specs.Prelude.{ℕ, ◌≡◌, ℤ}
use mathlib.Core.List.{List, []}
use Rattle.std.proofs.Common.{inr, ap}
use Rattle.std.proofs.Math.Path.{refl}
use Rattle.diskette.specs.declared.Kind.{Kind}
use Rattle.calls.specs.Outcome.{Outcome}
use Rattle.calls.specs.Refusals.{file_slot}
use Rattle.opened.specs.Records.{slot_of}
use Rattle.opening.specs.Open.{open_rows, open_effect, open_outcome}
use Rattle.seeking.specs.Seek.{seek_rows, seek_effect, seek_outcome}
use Rattle.reading.specs.Read.{read_rows, read_effect, read_outcome}
use Rattle.history.specs.Aids.Came.{Does, Came, idle, stays}
use Rattle.history.specs.Meant.{Names}
use Rattle.history.specs.Promises.{Begins}
use Rattle.history.specs.World.{World, Call, Look, ours, look, open_file, read, seek}
use Rattle.history.proofs.Laws.Begins.{on}
use Rattle.history.proofs.Laws.Looks.{looks_alter_nothing}
use Rattle.history.proofs.Laws.Meant.{by_name, reaches}
use Rattle.history.proofs.Laws.Passed.{passed_row}
use Rattle.history.proofs.Laws.Well.{came_by}

module _ (k : Kind) (w : World) (b : Begins k w) where
  abbrev l : List ℕ
  l = w.image

  abbrev t : List ℕ
  t = w.table

  -- an effect that ends well and leaves the image, of a call that names a slot
  does : (c : Call) (effect : Outcome) → effect.number ≡ 0 → ours c w ≡ effect → (s : ℕ) → Names c k w s → Does k w c s
  does c effect well e s n = record { well = rw e well; named = n }

  pub came_look : (x : Look) → Came k w (look x)
  came_look x = idle (inr (x, refl)) (ap (λ (u : World). u.image) (looks_alter_nothing w x))

  pub came_open : (name : List ℕ) (access : ℕ) → Came k w (open_file name access)
  unfolding open_outcome
  came_open name access = came_by k w (open_file name access) (open_rows l t name access) (open_effect l t name access) [] refl (λ rows e.
      let row = passed_row (open_rows l t name access) refl rows in
      stays (file_slot l name) (does (open_file name access) _ refl e _ (by_name k w (on b) name (row 3) (row 4)))
      (ap (λ (o : Outcome). o.image) e) (λ f g. (λ q. q, λ q. q)))

  pub came_read : (h : ℕ) (buffer : List ℕ) → Came k w (read h buffer)
  unfolding read_outcome
  came_read h buffer = came_by k w (read h buffer) (read_rows l t h) (read_effect l t h buffer) buffer refl (λ rows e.
      let row = passed_row (read_rows l t h) refl rows in
      stays (slot_of t h) (does (read h buffer) _ refl e _ (reaches k w (on b) h (row 2))) (ap (λ (o : Outcome). o.image) e)
      (λ f g. (λ q. q, λ q. q)))

  pub came_seek : (h method : ℕ) (offset : ℤ) → Came k w (seek h method offset)
  unfolding seek_outcome
  came_seek h method offset = came_by k w (seek h method offset) (seek_rows l t h method offset) (seek_effect l t h method offset) [] refl (λ rows e.
      let row = passed_row (seek_rows l t h method offset) refl rows in
      stays (slot_of t h) (does (seek h method offset) _ refl e _ (reaches k w (on b) h (row 3))) (ap (λ (o : Outcome). o.image) e)
      (λ f g. (λ q. q, λ q. q)))
