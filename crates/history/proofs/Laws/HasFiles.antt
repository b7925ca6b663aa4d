-- A volume with files in its first slots, what check answers of it, and what may be given for a new file.
use Rattle.std.specs.Prelude.{ℕ, ◌-◌, ◌*◌, ◌≤◌, ◌<◌, Bool, true, false, List, ◌≢◌, ◌≡◌, length, replicate, Some, is_some, Ok}
use Rattle.std.proofs.Common.{arith, ◌∙◌, subst}
use Rattle.std.proofs.Math.Decide.{ℕ_discrete}
use Rattle.image.specs.Bytes.{Bytes}
use Rattle.chains.specs.Values.{badb, reservedb}
use Rattle.chains.specs.Aids.Values.{OutOfUse}
use Rattle.chains.proofs.Laws.Values.{bad_out_of_use, reserved_out_of_use}
use Rattle.diskette.specs.Places.{cluster_bytes, clusters, last_cluster, root_entries, slot_at}
use Rattle.diskette.specs.declared.Kind.{Kind}
use Rattle.directory.specs.Slots.{NeverUsedAt}
use Rattle.names.specs.Reading.{name_given, name_bytes}
use Rattle.stamps.specs.Stamps.{packed}
use Rattle.stamps.specs.declared.Stamp.{Stamp}
use Rattle.sound.specs.Counts.{clusters_with, file_count, free_of, held_of, bad_of, reserved_of}
use Rattle.sound.specs.Judged.{check_of}
use Rattle.sound.proofs.Laws.Geometry.{geometry}
use Rattle.calls.specs.Refusals.{bad_attr}
use Rattle.calls.proofs.Laws.Ready.{on_usable}
use Rattle.changes.specs.Files.{File, Files, ShowsAt}
use Rattle.history.specs.World.{World}
use Rattle.history.proofs.Laws.Begins.{on}
use Rattle.history.proofs.Laws.OneSlot.{Stands}
use Rattle.history.proofs.Laws.Promises.{total_of}
use Rattle.changes.proofs.Laws.Verdict.{sound_verdict, first_count}

-- files in the slots below n, the others never used; so many clusters are free, none is bad or reserved, and the one place of
-- the table is not taken
pub record HasFiles (k : Kind) (w : World) (fs : Files) (n free : ℕ) : Type 0 where
  pub stands : Stands k w fs n
  pub never : NeverUsedAt w.image (slot_at k n)
  pub below : (t : ℕ) → t < n → (f : File) × (fs t ≡ Some f)
  pub free_are : free_of k w.image ≡ free
  pub out_of_use_none : (t : ℕ → Bool) → OutOfUse (last_cluster k) t → clusters_with t k w.image ≡ 0
  pub table : w.table ≡ replicate 16 0

-- what check answers of it
pub verdict_of : (k : Kind) (w : World) (fs : Files) (n free : ℕ) → HasFiles k w fs n free → n < root_entries k
    → check_of w.image ≡ Ok (record { files = n; free = free; held = clusters k - free; bad = 0; reserved = 0 })
verdict_of k w fs n free x h =
    let files : file_count k w.image ≡ n = first_count k w.image n (omega arith)
    (λ t i. (subst (ShowsAt k w.image t) (x.below t i).1 (x.stands.shows t)).is_file)
    (λ t i f. f.plain.0.0 (elim (ℕ_discrete t n) as (λ _. NeverUsedAt w.image (slot_at k t)) [
      | yes e ↦ rw e x.never
      | no d ↦ x.stands.above t (omega arith) f.below
    ])) in
    let G = geometry k (on_usable w.image k (on x.stands.begins)) in
    let bad : bad_of k w.image ≡ 0 = x.out_of_use_none badb (bad_out_of_use G) in
    let reserved : reserved_of k w.image ≡ 0 = x.out_of_use_none reservedb (reserved_out_of_use G) in
    let sound = x.stands.begins.sound in
    let held : held_of k w.image sound.0 ≡ clusters k - free = omega (arith, total_of k w x.stands.begins sound.0 sound.1.chains, x.free_are, bad, reserved) in
    sound_verdict k w.image (on x.stands.begins) sound.0 sound.1.chains ∙ rw (files, x.free_are, held, bad, reserved)

-- what is given for a new file: the calls have no reason to refuse it
pub record GoodFile (k : Kind) (fs : Files) (free : ℕ) (s : List ℕ) (attr : ℕ) (bs : List ℕ) (stamp : Stamp) : Type 0 where
  pub fits : is_some (name_given s) ≡ true
  pub long : length (name_bytes (name_given s)) ≡ 11
  pub new_name : (t : ℕ) (f : File) → fs t ≡ Some f → f.name ≢ (name_bytes (name_given s))
  pub may : bad_attr attr ≡ false
  pub time : ℕ
  pub date : ℕ
  pub stamped : packed stamp ≡ Some (time, date)
  pub small_time : time < 65536
  pub small_date : date < 65536
  pub bytes : Bytes bs
  pub some_bytes : 0 < length bs
  pub few_bytes : length bs < 4294967296
  pub room : length bs ≤ free * cluster_bytes k
