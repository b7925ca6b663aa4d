-- Write: how much is written, and what it refuses, by its rows. Only one outcome fits.
use Rattle.std.specs.Prelude.{ℕ, ◌+◌, ◌-◌, ◌*◌, ◌≤◌, ◌<◌, min, List, [], ◌∷◌, ◌≢◌, ◌≡◌, refl, eqb, length, take, Option, Result, Ok, Err, ok_or}
use native.Mathlib.Omega.{arith}
use Rattle.std.proofs.Common.{sym, ap, ◌∙◌}
use borrow.Author.Tests.{eq-eqb, ne_eqb}
use Rattle.diskette.specs.Places.{cluster_bytes, clusters, slot_at, root_entries}
use Rattle.diskette.specs.declared.Kind.{Kind}
use Rattle.opened.specs.Records.{access_of, pointer_of, with_pointer, with_written}
use Rattle.opened.specs.Aids.Places.{live_slot}
use Rattle.sound.specs.Counts.{free_of}
use Rattle.calls.specs.declared.refusal.Refusal.{Refusal}
use Rattle.calls.specs.declared.refusal.Refusal.TheVariants.{InvalidHandle}
use Rattle.calls.specs.Outcome.{Row, Outcome, refusal, decided}
use Rattle.calls.specs.Numbers.{access_denied, refusal_number}
use Rattle.calls.specs.Aids.Ready.{OnVolume}
use Rattle.calls.proofs.Laws.Rows.{Stops, stops_at, stopped}
use Rattle.calls.proofs.Laws.Ready.{on_kind_lem, known_passed, sound_passed}
use Rattle.calls.proofs.Laws.Files.{live_passed, live_slot_lem}
use Rattle.calls.specs.Answers.{Answer}
use Rattle.calls.proofs.Laws.Told.{told_only}
use Rattle.holding.specs.Holding.{file_chain}
use Rattle.holding.specs.Aids.Files.{FileAt}
use Rattle.links.specs.Aids.Extent.{extent_of}
use Rattle.links.specs.declared.Extent.{Extent}
use Rattle.putting.specs.Written.{written_in}
use Rattle.writing.specs.Write.{write_rows, write_effect, write_outcome, Writes, room_of}
use Rattle.writing.specs.Aids.Write.{write_at, WritesAt}
use Rattle.putting.proofs.Laws.Room.{room_clusters, room_fits}

pub writes_only : {img t : List ℕ} {h : ℕ} {bs : List ℕ} {r r' : Answer} {l l' m m' : List ℕ} → Writes img t h bs r l m → Writes img t h bs r' l' m'
    → (r ≡ r') × (l ≡ l') × (m ≡ m')
writes_only x y =
    let e = x.is ∙ sym y.is in
    (told_only (ap (λ (o : Outcome). o.number) e) (ap (λ (o : Outcome). o.value) e), ap (λ (o : Outcome). o.image) e, ap (λ (o : Outcome). o.table) e)

-- ---- the room

module _ (img : List ℕ) (k : Kind) (a : ℕ) (own : Extent) (eo : own ≡ extent_of (file_chain k img a)) (free : ℕ) (ef : free ≡ free_of k img) where
  own_is : own.clusters ≡ length (file_chain k img a)
  own_is = ap (λ (e : Extent). e.clusters) eo

  pub own_few : OnVolume img k → FileAt k img a → own.clusters + free ≤ clusters k
  own_few v f = omega (arith, own_is, room_clusters img k v a f)

  pub room_is : (room : ℕ) → room ≡ (own.clusters + free) * cluster_bytes k → room ≡ room_of k img a
  unfolding room_of
  room_is room e = e ∙ rw (own_is, ef)

-- ---- the count

pub count_within : (room pointer : ℕ) (bs : List ℕ) (n : ℕ) → n ≡ min (length bs) (room - pointer) → n ≤ length bs
count_within room pointer bs n e = omega arith

module _ (img : List ℕ) (k : Kind) (a room pointer many n : ℕ) (er : room ≡ room_of k img a) (e : n ≡ min many (room - pointer)) (some : n ≢ 0) where
  pub count_reaches : pointer + n ≤ (length (file_chain k img a) + free_of k img) * cluster_bytes k
  unfolding room_of
  count_reaches = omega arith

  module _ (v : OnVolume img k) (f : FileAt k img a) where
    pub pointer_fits : pointer + n < 4294967296
    pointer_fits = omega (arith, count_reaches, room_fits img k v a f)

    pub answer_fits : n < 4294967296
    answer_fits = omega (arith, count_reaches, room_fits img k v a f)

-- ---- the file whose entry starts at byte e

module _ (k : Kind) (img t : List ℕ) (e h : ℕ) (bs : List ℕ) (room pointer n : ℕ) (ep : pointer ≡ pointer_of t h) (er : room ≡ room_of k img e) (en : n ≡ min (length bs) (room - pointer)) where
  pub write_none : n ≡ 0 → (a : Answer) → a ≡ Ok 0 → WritesAt k img t e h bs a img t
  unfolding write_at
  write_none z a x = record { is = rw (x, ← ep, ← er, ← en, eq-eqb n 0 z) }

  pub write_some : n ≢ 0 → (l m : List ℕ) → l ≡ written_in k img e pointer (take n bs) → m ≡ with_written (with_pointer t h (pointer + n)) h → (a : Answer) → a ≡ Ok n → WritesAt k img t e h bs a l m
  unfolding write_at
  write_some z l m el em a x = record { is = rw (x, el, em, ← ep, ← er, ← en, ne_eqb n 0 z) }

-- ---- one row stops it, or all are passed

pub write_refused : {img t : List ℕ} {h : ℕ} {bs : List ℕ} {a : Answer} {e : Refusal} → a ≡ Err e → Stops (write_rows img t h) (refusal_number e)
    → Writes img t h bs a img t
unfolding write_outcome
write_refused x q = record { is = rw x (sym (stopped _ _ q _ _ _ [])) }

module _ (img t : List ℕ) (h : ℕ) (bs : List ℕ) (a : Answer) where
  pub write_well : (k : Kind) → OnVolume img k → (f : Option ℕ) → f ≡ live_slot t h img (slot_at k) (root_entries k)
      → (o : Result ℕ Refusal) → o ≡ ok_or f InvalidHandle → (slot : ℕ) → o ≡ Ok slot
      → (access : ℕ) → access ≡ access_of t h → access ≢ 0 → (e : ℕ) → e ≡ slot_at k slot → (l m : List ℕ) → WritesAt k img t e h bs a l m → Writes img t h bs a l m
  unfolding write_outcome write_effect write_at decided refusal
  write_well k v f found o wanted slot there access has may e ee l m y = record {
    is = rw (known_passed img k v, sound_passed img k v, live_passed img k t h f found o wanted slot there v, ← has, ne_eqb access 0 may, on_kind_lem img k v, ← live_slot_lem img k t h f found o wanted slot there, ← ee) y.is;
  }

pub write_stops : (t : List ℕ) (h access : ℕ) → access ≡ access_of t h → access ≡ 0 → (rows : List Row) → Stops ((eqb (access_of t h) 0, access_denied) ∷ rows) access_denied
write_stops t h access has q rows = stops_at _ access_denied rows (rw (← has) (eq-eqb access 0 q)) refl
