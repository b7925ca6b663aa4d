-- The promises kept: demand 3, proved of our library.
use Rattle.std.specs.Prelude.{ℕ, ◌+◌, List, [], ◌≡◌, refl, length}
use Rattle.std.proofs.Math.Decide.{ℕ_discrete}
use Rattle.std.proofs.Common.{inl, inr, sym, ap, ◌∙◌, eq-eqb, ne_eqb}
use Rattle.diskette.specs.Places.{clusters, slot_at}
use Rattle.diskette.specs.declared.Kind.{Kind}
use Rattle.opened.specs.Records.{slot_of, pointer_of}
use Rattle.sound.specs.Counts.{free_of, held_of, bad_of, reserved_of}
use Rattle.sound.specs.Files.{AreChains}
use Rattle.sound.proofs.Laws.Total.{total}
use Rattle.calls.specs.Outcome.{Outcome}
use Rattle.calls.proofs.Laws.Ready.{on_kind_lem, on_usable}
use Rattle.holding.specs.Holding.{file_chain}
use Rattle.writing.specs.Write.{write_count, write_rows, write_effect, write_outcome, room_of}
use Rattle.writing.proofs.Laws.Write.{count_within}
use Rattle.history.specs.Aids.Ours.{run}
use Rattle.history.specs.Promises.{Begins, SoundAfterEach, FilesOfHistory, NamesAFile, AltersNoOther, TotalAfterEach, ShortOnlyWhereFull}
use Rattle.history.specs.World.{World, ours, write}
use Rattle.history.proofs.Laws.Begins.{on}
use Rattle.history.proofs.Laws.Came.{came_names, came_entries, came_others}
use Rattle.history.proofs.Laws.Count.{write_short}
use Rattle.history.proofs.Laws.EveryCall.{came}
use Rattle.history.proofs.Laws.Rows.{decided_cases}
use Rattle.history.proofs.Laws.Runs.{begins_run, history_run, shows_run}
use Rattle.history.proofs.Laws.Shown.{list_is}
use Rattle.history.proofs.Laws.Spare.{reached_file}

pub sound_after_each : SoundAfterEach ours
sound_after_each k w b cs g = begins_run k cs w b g

pub files_of_history : FilesOfHistory ours
files_of_history k w b fs x cs g = (history_run k cs w b g fs, λ gs h. shows_run k cs w b g fs gs h x)

pub names_a_file : NamesAFile ours
names_a_file k w b cs g c given =
    let after = begins_run k cs w b g in
    came_names k (run w cs) c after (came k (run w cs) c after given)

pub alters_no_other : AltersNoOther ours
alters_no_other k w b cs g c given s h n =
    let after = begins_run k cs w b g in
    let x = came k (run w cs) c after given in
    (came_entries k (run w cs) c after x s h n, came_others k (run w cs) c after x s n)

pub total_of : (k : Kind) (w : World) → Begins k w → (lists : ℕ → List ℕ) → AreChains k w.image lists
    → free_of k w.image + held_of k w.image lists + bad_of k w.image + reserved_of k w.image ≡ clusters k
total_of k w b = total k (on_usable w.image k (on b)) w.image b.sound

pub total_after_each : TotalAfterEach ours
total_after_each k w b cs g = total_of k (run w cs) (begins_run k cs w b g)

-- as many bytes as the room allows
counted : (k : Kind) (w : World) → Begins k w → (h : ℕ) (bs : List ℕ) → (ours (write h bs) w).number ≡ 0
    → (ours (write h bs) w).value ≡ write_count k w.image (slot_at k (slot_of w.table h)) (pointer_of w.table h) (length bs)
unfolding write_outcome write_effect
counted k w b h bs well =
    let l = w.image in
    let t = w.table in
    let n = write_count k l (slot_at k (slot_of t h)) (pointer_of t h) (length bs) in
    elim (decided_cases (write_rows l t h) (write_effect l t h bs) l t []) [
      | inl x ↦ absurd (x.0 (sym (ap (λ (o : Outcome). o.number) x.1) ∙ well))
      | inr x ↦ ap (λ (o : Outcome). o.value) x.1 ∙ elim (ℕ_discrete n 0) [
        | yes z ↦ rw (on_kind_lem l k (on b), eq-eqb n 0 z) (sym z)
        | no d ↦ rw (on_kind_lem l k (on b), ne_eqb n 0 d)
      ]
    ]

pub short_only_where_full : ShortOnlyWhereFull ours
unfolding room_of
short_only_where_full k v b cs g h bs s ds well named chain =
    let w = run v cs in
    let begins = begins_run k cs v b g in
    let own : ds ≡ file_chain k w.image (slot_at k s) = list_is k w.image (on begins) s (reached_file k w h s named) ds chain in
    let value
    = counted k w begins h bs well ∙ ap (λ (i : ℕ). write_count k w.image (slot_at k i) (pointer_of w.table h) (length bs)) named.slot in
    rw (own, value)
    (count_within (room_of k w.image (slot_at k s)) (pointer_of w.table h) bs _ refl, write_short k w.image s (pointer_of w.table h) (length bs))
