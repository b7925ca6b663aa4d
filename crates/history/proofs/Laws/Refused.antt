-- A call that refuses leaves the world as it came.
use Rattle.std.specs.Prelude.{ℕ, Bool, true, false, cond, List, [], ◌≡◌, refl, eqb, length, Option, Some, None}
use Rattle.std.proofs.Common.{inl, inr, ap, ap₂}
use Rattle.diskette.specs.Places.{slot_at}
use Rattle.diskette.specs.declared.Kind.{Kind}
use Rattle.calls.specs.Outcome.{Outcome, outcome}
use Rattle.calls.specs.Refusals.{no_file, file_slot, slot_for_new, place_found, the_kind}
use Rattle.names.specs.Reading.{name_given, name_bytes}
use Rattle.stamps.specs.Stamps.{packed}
use Rattle.stamps.specs.declared.Stamp.{Stamp}
use Rattle.freeing.specs.Freed.{chain_freed}
use Rattle.opening.specs.Open.{open_effect, open_outcome}
use Rattle.seeking.specs.Seek.{seek_effect, seek_outcome}
use Rattle.closing.specs.Close.{close_effect, close_outcome}
use Rattle.marking.specs.Mode.{mode_effect, mode_outcome}
use Rattle.renaming.specs.Rename.{rename_effect, rename_outcome}
use Rattle.reading.specs.Read.{read_rows, read_effect, read_outcome}
use Rattle.creating.specs.Create.{create_effect, create_outcome, made_by}
use Rattle.deleting.specs.Delete.{delete_effect, delete_outcome}
use Rattle.opened.specs.Records.{slot_of, pointer_of}
use Rattle.writing.specs.Write.{write_count, write_effect, write_outcome}
use Rattle.history.specs.Promises.{RefusalsLeaveAll, RefusedReadsLeaveBuffer}
use Rattle.history.specs.World.{World, world, ours, look, open_file, create, read, write, seek, close, delete, rename, mode}
use Rattle.history.proofs.Laws.Looks.{looks_alter_nothing}
use Rattle.history.proofs.Laws.Rows.{decided_cases, refused_leaves}

-- one of two that end well
well_either : (b : Bool) (x y : Outcome) → x.number ≡ 0 → y.number ≡ 0 → (cond b x y).number ≡ 0
well_either true x y p q = p
well_either false x y p q = q

-- a file made in one of two ways
well_made : (b : Bool) (l m t : List ℕ) (k : Kind) (i j : ℕ) (name : List ℕ) (attr : ℕ) (p : Option (ℕ × ℕ))
    → (cond b (made_by l t k i name attr p) (made_by m t k j name attr p)).number ≡ 0
well_made true l m t k i j name attr (Some (time, date)) = refl
well_made true l m t k i j name attr None = refl
well_made false l m t k i j name attr (Some (time, date)) = refl
well_made false l m t k i j name attr None = refl

well_create : (l t s : List ℕ) (attr : ℕ) (stamp : Stamp) → (create_effect l t s attr stamp).number ≡ 0
well_create l t s attr stamp =
    well_made (no_file l s) l (chain_freed (the_kind l) l (slot_at (the_kind l) (file_slot l s))) t (the_kind l) (place_found (slot_for_new l)) (file_slot l s)
    (name_bytes (name_given s)) attr (packed stamp)

well_write : (l t : List ℕ) (h : ℕ) (bs : List ℕ) → (write_effect l t h bs).number ≡ 0
unfolding write_effect
well_write l t h bs = well_either (eqb (write_count (the_kind l) l (slot_at (the_kind l) (slot_of t h)) (pointer_of t h) (length bs)) 0) (outcome 0 0 l t []) _ refl refl

both : {w : World} {l t : List ℕ} → (l ≡ w.image) × (t ≡ w.table) → world l t ≡ w
both e = ap₂ world e.0 e.1

pub refusals_leave_all : RefusalsLeaveAll ours
unfolding open_outcome seek_outcome close_outcome mode_outcome rename_outcome read_outcome create_outcome delete_outcome write_outcome
refusals_leave_all w (look x) n = looks_alter_nothing w x
refusals_leave_all w (open_file name access) n = both (refused_leaves _ (open_effect w.image w.table name access) _ _ _ refl n)
refusals_leave_all w (create name attr stamp) n =
    both (refused_leaves _ (create_effect w.image w.table name attr stamp) _ _ _ (well_create w.image w.table name attr stamp) n)
refusals_leave_all w (read h buffer) n = both (refused_leaves _ (read_effect w.image w.table h buffer) _ _ _ refl n)
refusals_leave_all w (write h bs) n = both (refused_leaves _ (write_effect w.image w.table h bs) _ _ _ (well_write _ _ _ _) n)
refusals_leave_all w (seek h method offset) n = both (refused_leaves _ (seek_effect w.image w.table h method offset) _ _ _ refl n)
refusals_leave_all w (close h stamp) n = both (refused_leaves _ (close_effect w.image w.table h stamp) _ _ _ refl n)
refusals_leave_all w (delete name) n = both (refused_leaves _ (delete_effect w.image w.table name) _ _ _ refl n)
refusals_leave_all w (rename name new) n = both (refused_leaves _ (rename_effect w.image w.table name new) _ _ _ refl n)
refusals_leave_all w (mode name function attr) n =
    both (refused_leaves _ (mode_effect w.image w.table name function attr) _ _ _ (well_either (eqb function 1) _ _ refl refl) n)

pub refused_reads_leave_buffer : RefusedReadsLeaveBuffer ours
unfolding read_outcome
refused_reads_leave_buffer w h buffer n =
    elim (decided_cases (read_rows w.image w.table h) (read_effect w.image w.table h buffer) w.image w.table buffer) [
      | inl x ↦ ap (λ (o : Outcome). o.buffer) x.1
      | inr x ↦ absurd (n (ap (λ (o : Outcome). o.number) x.1))
    ]
