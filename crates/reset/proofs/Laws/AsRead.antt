-- On a sound volume: what open takes, read reads and close frees, against what rescue gives.
use Rattle.std.specs.Prelude.{ℕ, ◌+◌, ◌-◌, ◌<◌, min, true, false, List, [], ◌≡◌, refl, length, take}
use native.Mathlib.Omega.{arith}
use Rattle.std.proofs.Math.Bool.{not}
use Rattle.std.proofs.Common.{inl, inr, sym, ◌∙◌}
use Rattle.std.proofs.Math.Path.{ap}
use Rattle.image.specs.Bytes.{Bytes}
use Rattle.image.specs.Store.{stored}
use Rattle.image.proofs.Laws.Numbers.{number_small}
use Rattle.chains.proofs.Laws.Tests.{true_says, by_test}
use Rattle.diskette.specs.Places.{root_entries, slot_at}
use Rattle.diskette.specs.declared.Kind.{Kind}
use Rattle.fields.specs.Fields.{size_of}
use Rattle.stamps.specs.declared.Stamp.{Stamp}
use Rattle.opened.specs.Changes.{PlaceHolds}
use Rattle.opened.specs.Records.{place_count, written_of, with_record, with_pointer}
use Rattle.opened.proofs.Laws.Places.{live_is}
use Rattle.opened.proofs.Laws.Stores.{record_only, record_holds, pointer_holds}
use Rattle.opened.proofs.Laws.Uses.{only_count, same_live, pointer_uses}
use Rattle.calls.specs.Outcome.{Outcome, outcome, refusal, decided}
use Rattle.calls.specs.Aids.Ready.{OnVolume}
use Rattle.calls.specs.Refusals.{the_kind, bad_name, no_file, file_slot, no_place, free_place, not_live, bad_stamp}
use Rattle.calls.proofs.Laws.Ready.{on_kind_lem, known_passed, sound_passed}
use Rattle.holding.specs.Holding.{file_bytes}
use Rattle.sound.specs.Files.{IsFile}
use Rattle.opening.specs.Open.{open_rows, open_effect, open_outcome}
use Rattle.closing.specs.Close.{close_outcome}
use Rattle.reading.specs.Read.{read_outcome}
use Rattle.rescuing.specs.Rescue.{good_chain, rescue_outcome}
use Rattle.rescuing.proofs.Laws.Chain.{says_chain}
use Rattle.changes.proofs.Laws.Changed.{on_sound}
use Rattle.history.specs.Aids.Ours.{step, run}
use Rattle.history.proofs.Laws.Found.{place_counts, file_there, named_small}
use Rattle.history.proofs.Laws.Passed.{test_of, passed_row}
use Rattle.history.proofs.Laws.Rows.{decided_cases}
use Rattle.history.proofs.Laws.Begins.{on}
use Rattle.history.proofs.Laws.Runs.{begins_run}
use Rattle.history.specs.World.{World, ours, world, look, rescue, open_file, read, close}
use Rattle.reset.specs.AsRead.{SameAsRead, RescueAsRead, RefusedAsOpen}

module _ (k : Kind) (img : List ℕ) (v : OnVolume img k) (name : List ℕ) where
  -- a file of a sound volume has a good chain
  good_chain_lem : IsFile k img (file_slot img name) → good_chain k img (file_slot img name) ≡ true
  good_chain_lem i = true_says (says_chain img k v.known (file_slot img name))
      ((on_sound k img v).0 (file_slot img name), (on_sound k img v).1.chains (file_slot img name) i)

  abbrev slot : ℕ
  slot = file_slot img name

  abbrev size : ℕ
  size = size_of img (slot_at k slot)

  -- what rescue and read leave of a buffer
  abbrev filled : List ℕ → List ℕ
  filled out = stored out 0 (take (min (length out) size) (file_bytes k img (slot_at k slot)))

  module _ (there : no_file img name ≡ false) where
    rescue_is : bad_name name ≡ false → (out : List ℕ) → rescue_outcome img name out ≡ outcome 0 (min (length out) size) img [] (filled out)
    unfolding rescue_outcome decided refusal
    rescue_is fits out = rw (known_passed img k v, fits, there, on_kind_lem img k v, good_chain_lem (file_there k img v name there))

    -- ---- the place that open takes: T is the table then

    module _ (t : List ℕ) (free : no_place t ≡ false) where
      abbrev p : ℕ
      p = free_place t

      abbrev T : List ℕ
      T = with_record t p 0 slot 0 false

      counts : p < place_count t
      counts = place_counts t free

      taken : PlaceHolds T p true 0 slot 0 false
      taken = record_holds t p counts 0 slot 0 false (named_small k img v name there) (omega arith)

      counts_then : p < place_count T
      counts_then = rw (only_count p T t (record_only t p counts 0 slot 0 false)) counts

      live : not_live img T p ≡ false
      unfolding not_live
      live = rw (on_kind_lem img k v) (ap not ((live_is T p img (slot_at k) (root_entries k)).1 (record {
        counted = counts_then;
        used = taken.used;
        access = rw taken.access (omega arith);
        slot = rw taken.slot (file_there k img v name there).below;
        plain = rw taken.slot (file_there k img v name there).plain;
      })))

      module _ (out : List ℕ) where
        abbrev n : ℕ
        n = min (length out) size

        read_is : read_outcome img T p out ≡ outcome 0 n img (with_pointer T p n) (filled out)
        unfolding read_outcome decided refusal
        read_is =
            let z : size - 0 ≡ size = omega arith in
            let a : 0 + n ≡ n = omega arith in
            rw (known_passed img k v, sound_passed img k v, live, taken.access, on_kind_lem img k v, taken.slot, taken.pointer, z, a)

        -- ---- the same place when close comes: U is the table then

        abbrev U : List ℕ
        U = with_pointer T p n

        -- what the three calls answer
        abbrev after_open : World
        after_open = step (world img t) (open_file name 0)

        abbrev handle : ℕ
        handle = (open_outcome img t name 0).value

        abbrev reads : Outcome
        reads = ours (read handle out) after_open

        abbrev closes : Stamp → Outcome
        closes stamp = ours (close handle stamp) (step after_open (read handle out))

        abbrev rescues : Outcome
        rescues = ours (look (rescue name out)) (world img t)

        module _ (b : Bytes img) where
          small : n < 4294967296
          small = let z : size < 4294967296 = number_small img (slot_at k slot + 28) 4 b in omega arith

          still_live : not_live img U p ≡ false
          unfolding not_live
          still_live =
              let u = pointer_uses T p counts_then n small in
              ap not (same_live U T u.count p (u.each p counts_then) img (slot_at (the_kind img)) (root_entries (the_kind img))) ∙ live

          not_written : written_of U p ≡ false
          not_written = (pointer_holds T p counts_then n small).written ∙ taken.written

          close_ends : (stamp : Stamp) → bad_stamp stamp ≡ false → (close_outcome img U p stamp).number ≡ 0
          unfolding close_outcome decided refusal
          close_ends stamp fine = rw (known_passed img k v, sound_passed img k v, fine, still_live)

          close_leaves : (stamp : Stamp) → (close_outcome img U p stamp).image ≡ img
          unfolding close_outcome decided refusal
          close_leaves stamp = by_test (bad_stamp stamp)
              (λ bad. rw (known_passed img k v, sound_passed img k v, bad))
              (λ fine. rw (known_passed img k v, sound_passed img k v, fine, still_live, not_written))

          pub same_as_read : open_outcome img t name 0 ≡ open_effect img t name 0 → bad_name name ≡ false → (stamp : Stamp)
              → SameAsRead (world img t) stamp reads (closes stamp) rescues
          same_as_read x fits stamp =
              let r : reads ≡ outcome 0 n img U (filled out)
              = ap (λ (o : Outcome). read_outcome o.image o.table o.value out) x ∙ read_is in
              let c : closes stamp ≡ close_outcome img U p stamp
              = ap (λ (o : Outcome). let q = read_outcome o.image o.table o.value out in close_outcome q.image q.table o.value stamp) x
              ∙ ap (λ (o : Outcome). close_outcome o.image o.table p stamp) read_is in
              let y = rescue_is fits out in
              record {
                read_well = ap (λ (o : Outcome). o.number) r;
                close_well = λ fine. ap (λ (o : Outcome). o.number) c ∙ close_ends stamp fine;
                image_stays = ap (λ (o : Outcome). o.image) c ∙ close_leaves stamp;
                rescue_well = ap (λ (o : Outcome). o.number) y;
                same_count = ap (λ (o : Outcome). o.value) y ∙ sym (ap (λ (o : Outcome). o.value) r);
                same_bytes = ap (λ (o : Outcome). o.buffer) y ∙ sym (ap (λ (o : Outcome). o.buffer) r);
              }

-- ---- the promises

-- where open ends well, all its rows are passed
open_well : (img t name : List ℕ) → (open_outcome img t name 0).number ≡ 0
    → (refusal (open_rows img t name 0) ≡ 0) × (open_outcome img t name 0 ≡ open_effect img t name 0)
unfolding open_outcome
open_well img t name e = elim (decided_cases (open_rows img t name 0) (open_effect img t name 0) img t []) [
  | inl x ↦ absurd (x.0 (sym (ap (λ (o : Outcome). o.number) x.1) ∙ e))
  | inr x ↦ x
]

pub rescue_as_read : RescueAsRead ours
rescue_as_read k v b cs g name out stamp e =
    let w = run v cs in
    let s = begins_run k cs v b g in
    let x = open_well w.image w.table name e in
    let row : (i : ℕ) → test_of (open_rows w.image w.table name 0) i ≡ false = passed_row (open_rows w.image w.table name 0) refl x.0 in
    same_as_read k w.image (on s) name (row 4) w.table (row 6) out s.bytes x.1 (row 3) stamp

pub refused_as_open : RefusedAsOpen ours
unfolding open_outcome rescue_outcome decided refusal
refused_as_open k v b cs g name out refused place =
    let w = run v cs in
    let s = on (begins_run k cs v b g) in
    let p = known_passed w.image k s in
    let q = sound_passed w.image k s in
    by_test (bad_name name)
    (λ bad. rw (p, q, bad))
    (λ fits. by_test (no_file w.image name)
    (λ none. rw (p, q, fits, none))
    (λ there. absurd (by_test (no_place w.table)
    (λ full. place (rw (p, q, fits, there, full)))
    (λ free. refused (rw (p, q, fits, there, free))))))
