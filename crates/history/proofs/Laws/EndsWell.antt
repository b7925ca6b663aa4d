-- Create of a new file, write and close where none of their rows holds: what they answer, and the open table after. The table
-- has one place.
use Rattle.std.specs.Prelude.{ℕ, ◌+◌, ◌*◌, ◌≤◌, ◌<◌, Bool, true, List, [], ◌≡◌, refl, replicate, take, Some, None, is_some}
use native.Mathlib.Omega.{arith}
use Rattle.std.proofs.Math.Bool.{false, not}
use Rattle.std.proofs.Common.{ap, ◌∙◌}
use Rattle.std.proofs.Math.ListN.{length}
use borrow.Author.Tests.{ne_eqb}
use Rattle.diskette.specs.Places.{cluster_bytes, slot_at, root_entries}
use Rattle.diskette.specs.declared.Kind.{Kind}
use Rattle.search.specs.Search.{lowest}
use Rattle.names.specs.Reading.{name_given, name_bytes}
use Rattle.stamps.specs.Stamps.{packed}
use Rattle.stamps.specs.declared.Stamp.{Stamp}
use Rattle.opened.specs.Changes.{PlaceHolds}
use Rattle.opened.specs.Places.{lowest_unused}
use Rattle.opened.specs.Records.{place_count, used_of, with_record, with_pointer, with_written}
use Rattle.opened.proofs.Laws.Places.{live_is}
use Rattle.opened.proofs.Laws.Stores.{record_only, record_holds, pointer_only, pointer_holds, written_only, written_holds}
use Rattle.sound.specs.Counts.{free_of}
use Rattle.sound.specs.Files.{IsFile}
use Rattle.calls.specs.Outcome.{outcome, refusal, decided}
use Rattle.calls.specs.Aids.Ready.{OnVolume}
use Rattle.calls.specs.Refusals.{bad_attr, file_found, slot_for_new, not_live}
use Rattle.calls.proofs.Laws.Ready.{on_kind_lem}
use Rattle.creating.specs.Create.{made, create_outcome}
use Rattle.closing.specs.Close.{close_effect, close_outcome}
use Rattle.putting.specs.Written.{written_in}
use Rattle.writing.specs.Write.{write_count, write_effect, write_outcome, room_of}
use Rattle.history.specs.World.{World, ours, create, write, close}

-- the one place of the table is taken for the file in slot n
pub record TakenFor (t : List ℕ) (n pointer : ℕ) (written : Bool) : Type 0 where
  pub long : length t ≡ 16
  pub holds : PlaceHolds t 0 true 2 n pointer written

pub one_place : (t : List ℕ) → length t ≡ 16 → 0 < place_count t
one_place t e = omega arith

pub place_free : lowest_unused (replicate 16 0) ≡ Some 0
unfolding lowest_unused lowest used_of
place_free = refl

pub taken_made : (n : ℕ) → n < 4294967296 → TakenFor (with_record (replicate 16 0) 0 2 n 0 false) n 0 false
taken_made n h = record {
  long = (record_only (replicate 16 0) 0 (omega arith) 2 n 0 false).long;
  holds = record_holds (replicate 16 0) 0 (omega arith) 2 n 0 false h (omega arith);
}

pub taken_written : (t : List ℕ) (n p q : ℕ) → TakenFor t n p false → q < 4294967296 → TakenFor (with_written (with_pointer t 0 q) 0) n q true
taken_written t n p q x h =
    let m = with_pointer t 0 q in
    let long : length m ≡ 16 = (pointer_only t 0 (one_place t x.long) q).long ∙ x.long in
    let y = pointer_holds t 0 (one_place t x.long) q h in
    let z = written_holds m 0 (one_place m long) in
    record {
      long = (written_only m 0 (one_place m long)).long ∙ long;
      holds = record {
        used = z.used ∙ y.used ∙ x.holds.used;
        access = z.access ∙ y.access ∙ x.holds.access;
        slot = z.slot ∙ y.slot ∙ x.holds.slot;
        pointer = z.pointer ∙ y.pointer;
        written = z.written;
      };
    }

module _ (k : Kind) (w : World) (v : OnVolume w.image k) where
  abbrev l : List ℕ
  l = w.image

  abbrev t : List ℕ
  t = w.table

  -- place p is taken
  pub create_well : (s : List ℕ) (attr : ℕ) (stamp : Stamp) (time date n p : ℕ) → is_some (name_given s) ≡ true → packed stamp ≡ Some (time, date)
      → bad_attr attr ≡ false
      → file_found l s ≡ None → slot_for_new l ≡ Some n → lowest_unused t ≡ Some p
      → ours (create s attr stamp) w ≡ outcome 0 p (made l t k n (name_bytes (name_given s)) attr time date).image (with_record t p 2 n 0 false) []
  unfolding create_outcome decided refusal
  create_well s attr stamp time date n p fits stamped may none lowest place = rw (v.known, v.sound, fits, stamped, may, none, lowest, place)

  pub live : (n pointer : ℕ) (written : Bool) → TakenFor t n pointer written → IsFile k l n → not_live l t 0 ≡ false
  unfolding not_live
  live n pointer written x i = rw (on_kind_lem l k v)
      (ap not ((live_is t 0 l (slot_at k) (root_entries k)).1 (record {
        counted = one_place t x.long;
        used = x.holds.used;
        access = omega (arith, x.holds.access);
        slot = rw x.holds.slot i.below;
        plain = rw x.holds.slot i.plain;
      })))

  pub count_all : (n length : ℕ) → length ≤ free_of k l * cluster_bytes k → write_count k l (slot_at k n) 0 length ≡ length
  unfolding room_of
  count_all n length h = omega arith

  pub write_well : (n : ℕ) → TakenFor t n 0 false → IsFile k l n → (bs : List ℕ) → 0 < length bs → length bs ≤ free_of k l * cluster_bytes k
      → ours (write 0 bs) w ≡ outcome 0 (length bs) (written_in k l (slot_at k n) 0 (take (length bs) bs)) (with_written (with_pointer t 0 (length bs)) 0) []
  unfolding write_outcome write_effect decided refusal
  write_well n x i bs some room =
      let z : 0 + length bs ≡ length bs = omega arith in
      rw (
        live n 0 false x i,
        v.known,
        v.sound,
        x.holds.access,
        x.holds.slot,
        x.holds.pointer,
        count_all n (length bs) room,
        ne_eqb (length bs) 0 (omega arith),
        z,
      )

  pub close_well : (stamp : Stamp) (time date : ℕ) → packed stamp ≡ Some (time, date) → (n pointer : ℕ) (written : Bool)
      → TakenFor t n pointer written → IsFile k l n
      → ours (close 0 stamp) w ≡ close_effect l t 0 stamp
  unfolding close_outcome decided refusal
  close_well stamp time date stamped n pointer written x i = rw (live n pointer written x i, v.known, v.sound, stamped)
