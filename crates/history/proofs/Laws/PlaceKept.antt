-- A used place keeps its file and its access through every call but a close of it.
use Rattle.std.specs.Prelude.{ℕ, ◌+◌, ◌<◌, true, false, List, ◌≢◌, ◌≡◌, refl}
use Rattle.std.proofs.Common.{arith, inl, inr, sym, ap, ◌∙◌, subst}
use Rattle.std.proofs.Math.Decide.{ℕ_discrete}
use Rattle.image.specs.Numbers.{digits}
use Rattle.image.proofs.Laws.Numbers.{length_digits}
use Rattle.chains.proofs.Laws.Tests.{clash}
use Rattle.diskette.specs.declared.Kind.{Kind}
use Rattle.stamps.specs.declared.Stamp.{Stamp}
use Rattle.opened.specs.Changes.{OnlyAt}
use Rattle.opened.specs.Aids.Uses.{SameUse}
use Rattle.opened.specs.Records.{place_count, place_at, used_of, with_pointer, with_written, cleared}
use Rattle.opened.proofs.Laws.Records.{untouched}
use Rattle.opened.proofs.Laws.Stores.{record_only, pointer_only, cleared_only}
use Rattle.opened.proofs.Laws.Uses.{only_count, other_use, written_uses}
use Rattle.calls.specs.Aids.Ready.{OnVolume}
use Rattle.history.specs.World.{World, Call, ours, look, open_file, create, read, write, seek, close, delete, rename, mode}
use Rattle.history.proofs.Laws.Looks.{looks_alter_nothing}
use Rattle.history.proofs.Laws.TableStored.{Took, Pointed, open_took, create_took, read_pointed, write_pointed, seek_pointed}
use Rattle.history.proofs.Laws.TableStored.{close_freed, delete_same, rename_same, mode_same}

-- place h of m is taken for the file and the access of place h of t
pub record Kept (t : List ℕ) (h : ℕ) (m : List ℕ) : Type 0 where
  pub count : place_count m ≡ place_count t
  pub same : SameUse m t h

module _ (t : List ℕ) (h : ℕ) where
  same_kept : {m : List ℕ} → m ≡ t → Kept t h m
  same_kept e = subst (Kept t h) (sym e) (record { count = refl; same = record { used = refl; access = refl; slot = refl } })

  other_kept : (m : List ℕ) (p : ℕ) → OnlyAt p m t → h ≢ p → Kept t h m
  other_kept m p only d = record { count = only_count p m t only; same = other_use m t p only h d }

  pointed_kept : (m : List ℕ) (p v : ℕ) → Pointed t p v m → Kept t h m
  unfolding with_pointer
  pointed_kept m p v x = elim (ℕ_discrete h p) [
    | yes e ↦
        let u = untouched t (place_at p + 8) 4 (digits v 4) (length_digits v 4) p in
        let only = pointer_only t p x.counted v in
        rw (x.table, e) (record {
          count = only_count p (with_pointer t p v) t only;
          same = record { used = u.used (inl (omega arith)); access = u.access (inl (omega arith)); slot = u.slot (inr (omega arith)) };
        })
    | no d ↦ rw x.table (other_kept (with_pointer t p v) p (pointer_only t p x.counted v) d)
  ]

  marked_kept : h < place_count t → (m : List ℕ) (p v : ℕ) → Pointed t p v m → Kept t h (with_written m p)
  marked_kept counts m p v x =
      let a = pointed_kept m p v x in
      let within : p < place_count m = rw a.count x.counted in
      let b = written_uses m p within in
      let u = b.each h (rw a.count counts) in
      record {
        count = b.count ∙ a.count;
        same = record { used = u.used ∙ a.same.used; access = u.access ∙ a.same.access; slot = u.slot ∙ a.same.slot };
      }

module _ (k : Kind) (w : World) (v : OnVolume w.image k) (h : ℕ) (counts : h < place_count w.table) (used : used_of w.table h ≡ true) where
  abbrev t : List ℕ
  t = w.table

  -- the place that is taken was unused
  took_kept : (c : Call) (access s : ℕ) → Took k w c access s (ours c w) → Kept t h (ours c w).table
  took_kept c access s x =
      let p = (ours c w).value in
      rw x.table (other_kept t h _ p (record_only t p x.lowest.0.0 access s 0 false)
      (λ e. clash (subst (λ (q : ℕ). used_of t q ≡ true) e used) x.lowest.0.1))

  pub kept : (c : Call) → (ours c w).number ≡ 0 → ((stamp : Stamp) → ¬ (c ≡ close h stamp)) → Kept t h (ours c w).table
  kept (look x) well n = same_kept t h (ap (λ (u : World). u.table) (looks_alter_nothing w x))
  kept (open_file name access) well n = took_kept (open_file name access) access _ (open_took k w v name access well)
  kept (create name attr stamp) well n = took_kept (create name attr stamp) 2 _ (create_took k w v name attr stamp well).1
  kept (read g buffer) well n = pointed_kept t h _ g _ (read_pointed k w v g buffer well)
  kept (write g bs) well n = elim (write_pointed k w v g bs well) [
    | inl x ↦ same_kept t h x.1
    | inr x ↦ rw x.2 (marked_kept t h counts x.0 g _ x.3)
  ]
  kept (seek g method offset) well n = pointed_kept t h _ g _ (seek_pointed k w v g method offset well)
  kept (close g stamp) well n =
      let x = close_freed k w v g stamp well in
      rw x.1 (other_kept t h (cleared t g) g (cleared_only t g x.0) (λ e. n stamp (ap (λ (q : ℕ). close q stamp) (sym e))))
  kept (delete name) well n = same_kept t h (delete_same k w v name)
  kept (rename name new) well n = same_kept t h (rename_same k w v name new)
  kept (mode name function attr) well n = same_kept t h (mode_same k w v name function attr)
