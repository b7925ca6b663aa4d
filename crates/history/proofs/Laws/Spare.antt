-- A write for which the file's own clusters have room alters nothing before the root, and the start stays.
use Rattle.std.specs.Prelude.{ℕ, ◌+◌, ◌*◌, ◌≤◌, ◌<◌, ◌≢◌, ◌≡◌, length, get_or, take}
use Rattle.std.proofs.Common.{arith, sym, ◌∙◌}
use Rattle.std.proofs.Math.Decide.{ℕ_discrete}
use mathlib.Core.List.{List, []}
use Rattle.std.proofs.Math.Logic.{inl, inr}
use Rattle.std.proofs.Math.Path.{refl, ap, subst}
use borrow.Author.Tests.{eq-eqb, ne_eqb}
use Rattle.image.specs.Bytes.{Bytes}
use Rattle.diskette.specs.Places.{cluster_bytes, root_at, slot_at}
use Rattle.diskette.specs.declared.Kind.{Kind}
use Rattle.fields.specs.Fields.{start_of}
use Rattle.opened.specs.Records.{slot_of, pointer_of}
use Rattle.sound.specs.Files.{IsFile}
use Rattle.calls.specs.Outcome.{Outcome}
use Rattle.calls.specs.Aids.Ready.{OnVolume}
use Rattle.calls.proofs.Laws.Ready.{on_kind_lem}
use Rattle.holding.specs.Holding.{file_chain}
use Rattle.holding.proofs.Laws.Chain.{file_holds}
use Rattle.putting.specs.Written.{size_after, written_in}
use Rattle.writing.specs.Write.{write_count, write_rows, write_effect, write_outcome, room_of}
use Rattle.writing.proofs.Laws.Write.{count_within}
use Rattle.changes.proofs.Laws.Wrote.{tables_kept, start_kept}
use Rattle.history.specs.Aids.Ours.{step, run}
use Rattle.history.specs.Meant.{Reaches}
use Rattle.history.specs.Promises.{Begins, SpareFirst}
use Rattle.history.specs.World.{World, ours, write}
use Rattle.history.proofs.Laws.Begins.{on}
use Rattle.history.proofs.Laws.Count.{taken_fits, taken_length}
use Rattle.history.proofs.Laws.Rows.{decided_cases}
use Rattle.history.proofs.Laws.Runs.{begins_run}
use Rattle.history.proofs.Laws.Shown.{list_is}

-- a handle reaches a file
pub reached_file : (k : Kind) (w : World) (h s : ℕ) → Reaches k w h s → IsFile k w.image s
reached_file k w h s x = subst (IsFile k w.image) x.slot (record { below = x.live.slot; plain = x.live.plain })

abbrev Kept : Kind → List ℕ → List ℕ → ℕ → Type 0
Kept k l m s = ((j : ℕ) → j < root_at k → get_or m j 0 ≡ get_or l j 0) × (start_of m (slot_at k s) ≡ start_of l (slot_at k s))

-- what the call takes of the bytes is put into the file in slot s
module _ (k : Kind) (l : List ℕ) (v : OnVolume l k) (b : Bytes l) (s : ℕ) (i : IsFile k l s) (pointer : ℕ) (bs : List ℕ)
    (within : pointer + length bs ≤ length (file_chain k l (slot_at k s)) * cluster_bytes k) where
  abbrev n : ℕ
  n = write_count k l (slot_at k s) pointer (length bs)

  put_within : n ≢ 0 → Kept k l (written_in k l (slot_at k s) pointer (take n bs)) s
  put_within some =
      let p = taken_fits k l s pointer bs v i b some in
      let few : n ≤ length bs = count_within (room_of k l (slot_at k s)) pointer bs n refl in
      let room : size_after l (slot_at k s) pointer (length (take n bs)) ≤ length (file_chain k l (slot_at k s)) * cluster_bytes k
      = omega (arith, taken_length k l s pointer bs, file_holds l k v s i) in
      (tables_kept k l s pointer (take n bs) i p room, start_kept k l s pointer (take n bs) i p room)

module _ (k : Kind) (w : World) (b : Begins k w) (h : ℕ) (bs : List ℕ) (well : (ours (write h bs) w).number ≡ 0) where
  abbrev l : List ℕ
  l = w.image

  abbrev t : List ℕ
  t = w.table

  abbrev s : ℕ
  s = slot_of t h

  write_within : IsFile k l s → pointer_of t h + length bs ≤ length (file_chain k l (slot_at k s)) * cluster_bytes k → Kept k l (step w (write h bs)).image s
  unfolding write_outcome write_effect
  write_within i within =
      let n = write_count k l (slot_at k s) (pointer_of t h) (length bs) in
      let kind = on_kind_lem l k (on b) in
      elim (decided_cases (write_rows l t h) (write_effect l t h bs) l t []) as (λ _. Kept k l (step w (write h bs)).image s) [
        | inl x ↦ absurd (x.0 (sym (ap (λ (o : Outcome). o.number) x.1) ∙ well))
        | inr x ↦ elim (ℕ_discrete n 0) as (λ _. Kept k l (step w (write h bs)).image s) [
          | yes z ↦
              let e : (step w (write h bs)).image ≡ l = ap (λ (o : Outcome). o.image) x.1 ∙ rw (kind, eq-eqb n 0 z) in
              subst (λ (m : List ℕ). Kept k l m s) (sym e) (λ j q. refl, refl)
          | no d ↦
              let e : (step w (write h bs)).image ≡ written_in k l (slot_at k s) (pointer_of t h) (take n bs) = ap (λ (o : Outcome). o.image) x.1 ∙ rw (kind, ne_eqb n 0 d) in
              subst (λ (m : List ℕ). Kept k l m s) (sym e) (put_within k l (on b) b.bytes s i (pointer_of t h) bs within d)
        ]
      ]

pub spare_first : SpareFirst ours
spare_first k v b cs g h bs s ds well named chain within =
    let w = run v cs in
    let begins = begins_run k cs v b g in
    let i = reached_file k w h s named in
    let own : ds ≡ file_chain k w.image (slot_at k s) = list_is k w.image (on begins) s i ds chain in
    subst (λ (x : ℕ). Kept k w.image (step w (write h bs)).image x) named.slot
    (write_within k w begins h bs well (rw named.slot i) (rw (named.slot, ← own) within))
