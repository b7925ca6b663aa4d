-- Libraries that are ours but for one fault each: they touch a file that their caller did not name.
use Rattle.std.specs.Prelude.{ℕ, Bool, cond, not, ◌&&◌, List, [], eqb, ltb}
use Rattle.diskette.specs.Places.{slot_at, root_entries}
use Rattle.names.specs.Reading.{name_given, name_bytes}
use Rattle.stamps.specs.Stamps.{packed}
use Rattle.stamps.specs.declared.Stamp.{Stamp}
use Rattle.opened.specs.Aids.Places.{holds_file}
use Rattle.opened.specs.Records.{place_count, used_of, slot_of, access_of}
use Rattle.calls.specs.Outcome.{Outcome, outcome}
use Rattle.calls.specs.Refusals.{the_kind, no_file, address_of}
use Rattle.freeing.specs.Freed.{chain_freed}
use Rattle.creating.specs.Create.{made_by}
use Rattle.deleting.specs.Delete.{erased_in}
use Rattle.writing.specs.Write.{write_effect}
use Rattle.history.specs.World.{World, Library, ours, look, open_file, create, read, write, seek, close, delete, rename, mode}

-- ours, with other answers to create, write and delete
abbrev pub ours_but : (List ℕ → ℕ → Stamp → World → Outcome) → (ℕ → List ℕ → World → Outcome) → (List ℕ → World → Outcome) → Library
ours_but creates writes deletes (create name attr stamp) w = creates name attr stamp w
ours_but creates writes deletes (write h bs) w = writes h bs w
ours_but creates writes deletes (delete name) w = deletes name w
ours_but creates writes deletes (look x) w = ours (look x) w
ours_but creates writes deletes (open_file name access) w = ours (open_file name access) w
ours_but creates writes deletes (read h buffer) w = ours (read h buffer) w
ours_but creates writes deletes (seek h method offset) w = ours (seek h method offset) w
ours_but creates writes deletes (close h stamp) w = ours (close h stamp) w
ours_but creates writes deletes (rename name new) w = ours (rename name new) w
ours_but creates writes deletes (mode name function attr) w = ours (mode name function attr) w

abbrev pub our_create : List ℕ → ℕ → Stamp → World → Outcome
our_create name attr stamp = ours (create name attr stamp)

abbrev pub our_write : ℕ → List ℕ → World → Outcome
our_write h bs = ours (write h bs)

abbrev pub our_delete : List ℕ → World → Outcome
our_delete name = ours (delete name)

-- slot s of the image holds a file
abbrev pub file_in : List ℕ → ℕ → Bool
file_in l s = holds_file l (slot_at (the_kind l)) (root_entries (the_kind l)) s

-- delete of a name that no file has erases the file in slot 0, and answers 0
abbrev pub erasing : List ℕ → World → Outcome
erasing name w =
    let l = w.image in
    cond (no_file l name && file_in l 0) (outcome 0 0 (erased_in (the_kind l) l 0) w.table []) (our_delete name w)

abbrev pub erases_first : Library
erases_first = ours_but our_create our_write erasing

-- with place 0 in use, create of a new name empties the file in slot 0 and takes its slot, wherever ours would end well
abbrev pub taking : List ℕ → ℕ → Stamp → World → Outcome
taking name attr stamp w =
    let l = w.image in
    let o = our_create name attr stamp w in
    cond (eqb o.number 0 && (no_file l name && (used_of w.table 0 && file_in l 0)))
    (made_by (chain_freed (the_kind l) l (address_of l 0)) w.table (the_kind l) 0 (name_bytes (name_given name)) attr (packed stamp)) o

abbrev pub takes_first : Library
takes_first = ours_but taking our_write our_delete

-- write through a place that the test lets pass, live or not, stores into the file that its bytes name
abbrev pub writing : (List ℕ → ℕ → Bool) → ℕ → List ℕ → World → Outcome
writing lets h bs w =
    let l = w.image in
    let t = w.table in
    cond (lets t h && file_in l (slot_of t h)) (write_effect l t h bs) (our_write h bs w)

-- an unused place
abbrev pub unused : List ℕ → ℕ → Bool
unused t h = ltb h (place_count t) && not (used_of t h)

-- one with access above 2
abbrev pub above : List ℕ → ℕ → Bool
above t h = ltb h (place_count t) && ltb 2 (access_of t h)

abbrev pub writes_through : (List ℕ → ℕ → Bool) → Library
writes_through lets = ours_but our_create (writing lets) our_delete
