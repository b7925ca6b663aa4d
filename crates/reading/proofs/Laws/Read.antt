-- Read: the bytes of a file of a sound volume, and what it refuses, by its rows. Only one outcome fits.
use Rattle.std.specs.Prelude.{ℕ, ◌+◌, ◌-◌, ◌*◌, ◌≤◌, List, ◌∷◌, ◌≢◌, ◌≡◌, refl, eqb, length, get_or, Option, Result, Ok, Err, ok_or}
use native.Mathlib.Omega.{arith}
use Rattle.std.proofs.Math.Decide.{dec_lt}
use Rattle.std.proofs.Common.{inr, sym, ap, ◌∙◌}
use borrow.Author.Tests.{eq-eqb, ne_eqb}
use Rattle.image.specs.Store.{stored, part}
use Rattle.image.proofs.Laws.Store.{length_part, stored_outside}
use Rattle.chains.specs.Content.{content}
use Rattle.chains.proofs.Laws.Content.{content_length}
use Rattle.contents.proofs.Laws.Chain.{chain_room}
use Rattle.contents.specs.Aids.Contents.{chain_from, fetched}
use Rattle.contents.proofs.Laws.Read.{fetched_content}
use Rattle.diskette.specs.Places.{first_data, cluster_bytes, last_cluster, root_entries, slot_at}
use Rattle.diskette.specs.declared.Kind.{Kind}
use Rattle.fields.specs.Fields.{start_of, size_of}
use Rattle.opened.specs.Records.{access_of, pointer_of, with_pointer}
use Rattle.opened.specs.Aids.Places.{live_slot}
use Rattle.calls.specs.declared.refusal.Refusal.{Refusal}
use Rattle.calls.specs.declared.refusal.Refusal.TheVariants.{InvalidHandle}
use Rattle.calls.specs.Outcome.{Row, Outcome, refusal, decided}
use Rattle.calls.specs.Numbers.{access_denied, refusal_number}
use Rattle.calls.specs.Aids.Ready.{OnVolume}
use Rattle.holding.specs.Holding.{file_chain, file_bytes}
use Rattle.sound.specs.Files.{IsFile}
use Rattle.holding.proofs.Laws.Clusters.{on_clusters}
use Rattle.holding.proofs.Laws.Chain.{file_holds}
use Rattle.reading.specs.Read.{read_count, read_rows, read_outcome, Reads}
use Rattle.calls.proofs.Laws.Rows.{Stops, stops_at, stopped}
use Rattle.calls.proofs.Laws.Ready.{on_kind_lem, known_passed, sound_passed}
use Rattle.calls.proofs.Laws.Files.{live_passed, live_slot_lem}
use Rattle.calls.specs.Answers.{Answer}
use Rattle.calls.proofs.Laws.Told.{told_only}

pub reads_only : {img t : List ℕ} {h : ℕ} {buf : List ℕ} {r r' : Answer} {m m' b b' : List ℕ} → Reads img t h buf r m b → Reads img t h buf r' m' b'
    → (r ≡ r') × (m ≡ m') × (b ≡ b')
reads_only x y =
    let e = x.is ∙ sym y.is in
    (told_only (ap (λ (o : Outcome). o.number) e) (ap (λ (o : Outcome). o.value) e), ap (λ (o : Outcome). o.table) e, ap (λ (o : Outcome). o.buffer) e)

-- ---- the bytes of a file of a volume that is ready

module _ (img : List ℕ) (k : Kind) (v : OnVolume img k) where
  module _ (slot : ℕ) (i : IsFile k img slot) (pointer n : ℕ) (short : n ≤ size_of img (slot_at k slot) - pointer) where
    module _ (some : n ≢ 0) (cb last : ℕ) (ce : cb ≡ cluster_bytes k) (le : last ≡ last_cluster k) where
      module _ (a start : ℕ) (ae : a ≡ slot_at k slot) (se : start ≡ start_of img a) where
        pub copy_room : pointer + n ≤ length (chain_from last img start) * cb
        copy_room =
            let h : size_of img (slot_at k slot) ≤ length (file_chain k img (slot_at k slot)) * cluster_bytes k = file_holds img k v slot i in
            let g : pointer + n ≤ length (file_chain k img (slot_at k slot)) * cluster_bytes k = omega arith in
            rw (se, ae, ce, le) g

        pub copied_is : (first : ℕ) → first ≡ first_data k → (buf m : List ℕ) → m ≡ stored buf 0 (fetched (512 * first) cb last img start pointer n) → m ≡ stored buf 0 (part (file_bytes k img (slot_at k slot)) pointer n)
        unfolding file_bytes
        copied_is first fe buf m e =
            let q = fetched_content (512 * first_data k) (cluster_bytes k) (last_cluster k) img (start_of img (slot_at k slot)) (on_clusters img k v) pointer n (size_of img (slot_at k slot)) (omega arith) (file_holds img k v slot i) in
            rw (e, fe, ce, le, se, ae, q)

pub copied_none : (k : Kind) (img : List ℕ) (slot pointer n : ℕ) (buf : List ℕ) → n ≡ 0 → buf ≡ stored buf 0 (part (file_bytes k img (slot_at k slot)) pointer n)
unfolding stored
copied_none k img slot pointer n buf e = rw e

-- ---- one row stops it, or all are passed

pub read_refused : {img t : List ℕ} {h : ℕ} {buf : List ℕ} {a : Answer} {e : Refusal} → a ≡ Err e → Stops (read_rows img t h) (refusal_number e)
    → Reads img t h buf a t buf
unfolding read_outcome
read_refused {buf = buf} x q = record { is = rw x (sym (stopped _ _ q _ _ _ buf)) }

module _ (img t : List ℕ) (h : ℕ) (buf : List ℕ) (a : Answer) where
  pub read_well : (k : Kind) → OnVolume img k → (f : Option ℕ) → f ≡ live_slot t h img (slot_at k) (root_entries k)
      → (o : Result ℕ Refusal) → o ≡ ok_or f InvalidHandle → (slot : ℕ) → o ≡ Ok slot
      → (access : ℕ) → access ≡ access_of t h → access ≢ 1 → (pointer : ℕ) → pointer ≡ pointer_of t h
      → (e size : ℕ) → e ≡ slot_at k slot → size ≡ size_of img e → (n : ℕ) → n ≡ read_count (length buf) size pointer
      → (b m : List ℕ) → b ≡ stored buf 0 (part (file_bytes k img (slot_at k slot)) pointer n) → m ≡ with_pointer t h (pointer + n) → a ≡ Ok n → Reads img t h buf a m b
  unfolding read_outcome decided refusal
  read_well k v f found o wanted slot there access has may pointer from e size ee sized n count b m be me x = record {
    is = rw (x, be, me, known_passed img k v, sound_passed img k v, live_passed img k t h f found o wanted slot there v, ← has, ne_eqb access 1 may, on_kind_lem img k v, ← live_slot_lem img k t h f found o wanted slot there, ← from, ← ee, ← sized, ← count);
  }

pub read_stops : (t : List ℕ) (h access : ℕ) → access ≡ access_of t h → access ≡ 1 → (rows : List Row) → Stops ((eqb (access_of t h) 1, access_denied) ∷ rows) access_denied
read_stops t h access has q rows = stops_at _ access_denied rows (rw (← has) (eq-eqb access 1 q)) refl

-- ---- what it means

-- as many bytes are moved as are answered
module _ (img : List ℕ) (k : Kind) (v : OnVolume img k) (slot : ℕ) (i : IsFile k img slot) (pointer n : ℕ) (short : n ≤ size_of img (slot_at k slot) - pointer) where
  pub moved_length : length (part (file_bytes k img (slot_at k slot)) pointer n) ≡ n
  unfolding file_bytes
  moved_length = elim (dec_lt 0 n) [
    | no z ↦ let e : n ≡ 0 = omega arith in rw e
    | yes h ↦
        let l = content_length (512 * first_data k) (cluster_bytes k) (on_clusters img k v).wide img (chain_from (last_cluster k) img (start_of img (slot_at k slot))) (size_of img (slot_at k slot))
        (chain_room (512 * first_data k) (cluster_bytes k) (last_cluster k) img (start_of img (slot_at k slot)) (on_clusters img k v)) (file_holds img k v slot i) in
        length_part (content (512 * first_data k) (cluster_bytes k) img (chain_from (last_cluster k) img (start_of img (slot_at k slot))) (size_of img (slot_at k slot))) pointer n (omega (arith, l))
  ]

  -- the rest of the buffer keeps its bytes
  pub rest_kept : (buf : List ℕ) (j : ℕ) → n ≤ j → get_or (stored buf 0 (part (file_bytes k img (slot_at k slot)) pointer n)) j 0 ≡ get_or buf j 0
  rest_kept buf j h = stored_outside buf 0 (part (file_bytes k img (slot_at k slot)) pointer n) j (inr (rw moved_length (omega arith)))
