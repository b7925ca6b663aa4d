-- What delete, create and write come to.
use Rattle.std.specs.Prelude.{ℕ, Bool, ◌↔◌, length, take, Option, Some, None, is_some}
use Rattle.std.proofs.Common.{arith, inl, inr, sym, ◌∙◌}
use Rattle.std.proofs.Math.Decide.{ℕ_discrete}
use Rattle.std.proofs.Math.Bool.{true, false}
use mathlib.Core.List.{List, []}
use Rattle.std.proofs.Math.Path.{◌≡◌, refl, ap, subst}
use borrow.Author.Tests.{eq-eqb, ne_eqb}
use Rattle.image.specs.Bytes.{Bytes}
use Rattle.chains.specs.Write.{written}
use Rattle.diskette.specs.Places.{root_entries, slot_at}
use Rattle.diskette.specs.declared.Kind.{Kind}
use Rattle.fields.specs.Fields.{with_entry}
use Rattle.directory.specs.Search.{lowest_vacant}
use Rattle.names.specs.Reading.{name_given, name_bytes}
use Rattle.names.specs.Spelling.{Means}
use Rattle.stamps.specs.Stamps.{packed}
use Rattle.stamps.specs.declared.Stamp.{Stamp}
use Rattle.opened.specs.Records.{slot_of, pointer_of}
use Rattle.calls.specs.Outcome.{Outcome, refusal}
use Rattle.calls.specs.Refusals.{place_found, no_file, file_slot, slot_for_new}
use Rattle.calls.proofs.Laws.Ready.{on_kind_lem}
use Rattle.creating.specs.Create.{made, create_rows, create_effect, create_outcome}
use Rattle.deleting.specs.Delete.{erased_in, delete_rows, delete_effect, delete_outcome}
use Rattle.freeing.specs.Freed.{chain_freed}
use Rattle.putting.specs.Written.{written_in}
use Rattle.writing.specs.Write.{write_count, write_rows, write_effect, write_outcome}
use Rattle.changes.specs.Aids.Changed.{SlotChanged}
use Rattle.changes.specs.Files.{File, file, Holds, ShowsAt}
use Rattle.changes.proofs.Laws.Made.{empty_changed, empty_holds, empty_bytes, new_changed, new_holds, new_bytes}
use Rattle.changes.proofs.Laws.Wrote.{wrote_changed, wrote_holds, wrote_bytes}
use Rattle.history.specs.Aids.Ours.{step}
use Rattle.history.specs.Aids.Came.{Does, Came, stays}
use Rattle.history.specs.Meant.{Names}
use Rattle.history.specs.Promises.{Begins}
use Rattle.history.specs.World.{World, ours, create, delete, write}
use Rattle.history.proofs.Laws.Begins.{on}
use Rattle.history.proofs.Laws.Count.{taken_fits, bytes_take}
use Rattle.history.proofs.Laws.Ended.{delete_changed, delete_ends, delete_bytes}
use Rattle.history.proofs.Laws.Found.{good_name, found_at, file_found_lem, file_there, no_file_found, live_there}
use Rattle.history.proofs.Laws.Meant.{meant_exactly, by_name, has_name, for_new, reaches}
use Rattle.history.proofs.Laws.Passed.{passed_row}
use Rattle.history.proofs.Laws.Well.{came_by, came_put, came_at}

module _ (k : Kind) (w : World) (b : Begins k w) where
  abbrev l : List ℕ
  l = w.image

  abbrev t : List ℕ
  t = w.table

  -- ---- delete

  pub came_delete : (name : List ℕ) → Came k w (delete name)
  unfolding delete_outcome
  came_delete name = came_by k w (delete name) (delete_rows l t name) (delete_effect l t name) [] refl (λ rows e.
      let row = passed_row (delete_rows l t name) refl rows in
      let s = file_slot l name in
      let does : Does k w (delete name) s
      = record { well = ap (λ (o : Outcome). o.number) e; named = by_name k w (on b) name (row 2) (row 3) } in
      let i = file_there k l (on b) name (row 3) in
      let m : (step w (delete name)).image ≡ erased_in k l s = ap (λ (o : Outcome). o.image) e ∙ rw (on_kind_lem l k (on b)) in
      came_put k w (delete name) s _ _ does m
      (delete_changed k l (on b) b.bytes s i)
      (delete_bytes k l (on b) b.bytes s i)
      (λ f. (None, refl))
      (λ f g y p. subst (ShowsAt k (erased_in k l s) s) (sym p) (delete_ends k l (on b) b.bytes s i)))

  -- ---- write

  pub came_write : (h : ℕ) (bs : List ℕ) → Bytes bs → Came k w (write h bs)
  unfolding write_outcome write_effect
  came_write h bs given = came_by k w (write h bs) (write_rows l t h) (write_effect l t h bs) [] refl by
    where
      by : refusal (write_rows l t h) ≡ 0 → ours (write h bs) w ≡ write_effect l t h bs → Came k w (write h bs)
      by rows e =
          let row = passed_row (write_rows l t h) refl rows in
          let i = live_there k l (on b) t h (row 2) in
          let s = slot_of t h in
          let pointer = pointer_of t h in
          let n = write_count k l (slot_at k s) pointer (length bs) in
          let kind = on_kind_lem l k (on b) in
          let named : Names (write h bs) k w s = reaches k w (on b) h (row 2) in
          elim (ℕ_discrete n 0) [
            | yes z ↦
                let q = eq-eqb n 0 z in
                let value : (ours (write h bs) w).value ≡ 0 = ap (λ (o : Outcome). o.value) e ∙ rw (kind, q) in
                stays s (record { well = ap (λ (o : Outcome). o.number) e ∙ rw (kind, q); named = named })
                (ap (λ (o : Outcome). o.image) e ∙ rw (kind, q)) (λ f g. rw (eq-eqb (ours (write h bs) w).value 0 value) (λ p. p, λ p. p))
            | no d ↦
                let q = ne_eqb n 0 d in
                let does : Does k w (write h bs) s = record { well = ap (λ (o : Outcome). o.number) e ∙ rw (kind, q); named = named } in
                let value : (ours (write h bs) w).value ≡ n = ap (λ (o : Outcome). o.value) e ∙ rw (kind, q) in
                let m : (step w (write h bs)).image ≡ written_in k l (slot_at k s) pointer (take n bs) = ap (λ (o : Outcome). o.image) e ∙ rw (kind, q) in
                let p = taken_fits k l s pointer bs (on b) i b.bytes d in
                came_at k w (write h bs) s _ _ does m
                (wrote_changed k l s pointer (take n bs) i p)
                (wrote_bytes k l s pointer (take n bs) i p (bytes_take n bs given))
                i (λ f. file f.name f.attr (written f.bytes pointer (take n bs))) (λ f g. rw (value, q) (λ p. p, λ p. p))
                (wrote_holds k l s pointer (take n bs) i p)
          ]

  -- ---- create

  module _ (given : List ℕ) (attr : ℕ) (stamp : Stamp) where
    abbrev name : List ℕ
    name = name_bytes (name_given given)

    -- what the history makes of the file there
    becomes : is_some (name_given given) ≡ true → (g : Option File)
        → ((n : List ℕ) × Means given n × (g ≡ Some (file n attr []))) ↔ (g ≡ Some (file name attr []))
    becomes fits g = meant_exactly given fits (λ n. g ≡ Some (file n attr []))

    -- a file was made in the slot of n, which is the image, with the clusters of the old file freed if there was one
    made_in : (n : List ℕ) (s time date : ℕ) → Names (create given attr stamp) k w s → is_some (name_given given) ≡ true
        → ours (create given attr stamp) w ≡ made n t k s name attr time date
        → SlotChanged k l (with_entry n (slot_at k s) name attr time date 0 0) s [] → Bytes (with_entry n (slot_at k s) name attr time date 0 0)
        → Holds k (with_entry n (slot_at k s) name attr time date 0 0) s (file name attr []) → Came k w (create given attr stamp)
    made_in n s time date named fits e changed bytes holds =
        came_put k w (create given attr stamp) s [] _ (record { well = ap (λ (o : Outcome). o.number) e; named = named })
        (ap (λ (o : Outcome). o.image) e) changed bytes
        (λ f. (Some (file name attr []), (becomes fits (Some (file name attr []))).1 refl))
        (λ f g y p. subst (ShowsAt k (with_entry n (slot_at k s) name attr time date 0 0) s) (sym ((becomes fits g).0 p)) holds)

    well : (missing : Bool) → no_file l given ≡ missing → (p : Option (ℕ × ℕ)) → packed stamp ≡ p → refusal (create_rows l t given attr stamp) ≡ 0
        → ours (create given attr stamp) w ≡ create_effect l t given attr stamp
        → Came k w (create given attr stamp)
    unfolding slot_for_new
    well missing q None pe rows e =
        let row = passed_row (create_rows l t given attr stamp) refl rows in
        absurd (let y : true ≡ false = rw pe at (row 3) in let z : ◌≡◌ {A = ℕ} 0 1 = cc in omega arith)
    well true q (Some (time, date)) pe rows e =
        let row = passed_row (create_rows l t given attr stamp) refl rows in
        let fits = good_name given (row 2) in
        let kind = on_kind_lem l k (on b) in
        let s = place_found (lowest_vacant l (slot_at k) (root_entries k)) in
        let lowest : lowest_vacant l (slot_at k) (root_entries k) ≡ Some s
        = found_at (lowest_vacant l (slot_at k) (root_entries k)) (rw (q, kind) at (row 7)) in
        let new_one = for_new k l (on b) given fits q (rw q at (row 7)) in
        let none_named = no_file_found k l (on b) given q in
        made_in l s time date (inr (rw kind at new_one)) fits (e ∙ rw (q, pe, kind))
        (new_changed k l (on b) b.bytes given fits attr (row 4) time date s none_named lowest)
        (new_bytes k l (on b) b.bytes given fits attr (row 4) time date s none_named lowest)
        (new_holds k l (on b) b.bytes given fits attr (row 4) time date s none_named lowest)
    well false q (Some (time, date)) pe rows e =
        let row = passed_row (create_rows l t given attr stamp) refl rows in
        let fits = good_name given (row 2) in
        let s = file_slot l given in
        let found = file_found_lem k l (on b) given q in
        made_in (chain_freed k l (slot_at k s)) s time date (inl (has_name k l (on b) given fits q)) fits (e ∙ rw (q, pe, on_kind_lem l k (on b)))
        (empty_changed k l (on b) b.bytes given fits attr (row 4) time date s found)
        (empty_bytes k l (on b) b.bytes given fits attr (row 4) time date s found)
        (empty_holds k l (on b) b.bytes given fits attr (row 4) time date s found)

    pub came_create : Came k w (create given attr stamp)
    unfolding create_outcome
    came_create =
        came_by k w (create given attr stamp) (create_rows l t given attr stamp) (create_effect l t given attr stamp) [] refl
        (well (no_file l given) refl (packed stamp) refl)
