-- Our seek leads to where its offset says.
use Rattle.std.specs.Prelude.{ℕ, Bool, true, false, cond, [], ◌≡◌, refl, eqb, leb, ℤ, pos, negsuc, ◌+ℤ◌, length, Some, None}
use Rattle.std.proofs.Common.{inl, inr, sym, ap, ◌∙◌}
use Rattle.chains.proofs.Laws.Tests.{clash}
use Rattle.diskette.specs.Places.{slot_at}
use Rattle.fields.specs.Fields.{size_of}
use Rattle.offset.specs.Offset.{as_pointer, moved_by}
use Rattle.opened.specs.Records.{pointer_of}
use Rattle.calls.specs.Answers.{value_told}
use Rattle.calls.specs.Outcome.{Outcome}
use Rattle.calls.proofs.Laws.Ready.{on_kind_lem}
use Rattle.seeking.specs.Seek.{answer_of, is_beyond, seek_base, seek_rows, seek_effect, seek_outcome}
use Rattle.sound.specs.Files.{IsFile}
use Rattle.history.specs.Aids.Ours.{run}
use Rattle.history.specs.Promises.{SeeksAreOfHistory}
use Rattle.history.specs.World.{ours}
use Rattle.history.proofs.Laws.Begins.{on}
use Rattle.history.proofs.Laws.Passed.{passed_row}
use Rattle.history.proofs.Laws.Rows.{decided_cases}
use Rattle.history.proofs.Laws.Runs.{begins_run}
use Rattle.history.proofs.Laws.Shown.{bytes_long, holds_bytes}

-- a whole number that is a pointer
pointer_is : (z : ℤ) → is_beyond (as_pointer z) ≡ false → pos (value_told (answer_of (as_pointer z))) ≡ z
pointer_is (pos n) e = go (leb n 4294967295) e
  where
    go : (b : Bool) → is_beyond (cond b (Some n) None) ≡ false → pos (value_told (answer_of (cond b (Some n) None))) ≡ pos n
    go true f = refl
    go false f = absurd (clash refl f)
pointer_is (negsuc n) e = absurd (clash refl e)

pub seeks_are_of_history : SeeksAreOfHistory ours
unfolding seek_outcome seek_base moved_by
seeks_are_of_history k v c cs g h method offset s f e n x =
    let w = run v cs in
    let b = begins_run k cs v c g in
    let l = w.image in
    let t = w.table in
    let i : IsFile k l s = x.is_file in
    let size : size_of l (slot_at k s) ≡ length f.bytes = sym (bytes_long k l (on b) s i) ∙ ap length (holds_bytes k l (on b) s f x) in
    let base : seek_base l t h method
    ≡ cond (eqb method 0) 0 (cond (eqb method 1) (pointer_of t h) (length f.bytes)) = rw (on_kind_lem l k (on b), n.slot, size) in
    elim (decided_cases (seek_rows l t h method offset) (seek_effect l t h method offset) l t []) [
      | inl y ↦ absurd (y.0 (sym (ap (λ (o : Outcome). o.number) y.1) ∙ e))
      | inr y ↦
          let row = passed_row (seek_rows l t h method offset) refl y.0 4 in
          let there = pointer_is (pos (seek_base l t h method) +ℤ offset) row in
          ap (λ (o : Outcome). pos o.value) y.1 ∙ there ∙ ap (λ (from : ℕ). pos from +ℤ offset) base
    ]
