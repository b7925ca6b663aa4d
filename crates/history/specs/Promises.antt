-- Demand 3, sentence by sentence: what a library must keep, from any sound volume, any bytes as open table, and after any run of calls.
use Rattle.std.specs.Prelude.{ℕ, ◌+◌, ◌*◌, ◌≤◌, ◌<◌, cond, List, [], ◌∷◌, ◌≢◌, ◌≡◌, eqb, ℤ, pos, ◌+ℤ◌, length, get_or, Option}
use Rattle.image.specs.Bytes.{Bytes}
use Rattle.image.specs.Store.{stored, part}
use Rattle.diskette.specs.Images.{OfKind}
use Rattle.diskette.specs.Places.{cluster_bytes, clusters, root_at, root_entries, slot_at}
use Rattle.diskette.specs.declared.Kind.{Kind}
use Rattle.directory.specs.Entries.{SameBytes}
use Rattle.fields.specs.Fields.{start_of}
use Rattle.opened.specs.Records.{pointer_of}
use Rattle.sound.specs.Counts.{free_of, held_of, bad_of, reserved_of}
use Rattle.sound.specs.Files.{ChainOf, AreChains}
use Rattle.sound.specs.Sound.{Sound}
use Rattle.reading.specs.Read.{read_count}
use Rattle.changes.specs.Files.{File, Files, Holds, Shows, ShowsAt}
use Rattle.history.specs.History.{History}
use Rattle.history.specs.Meant.{Names}
use Rattle.history.specs.World.{World, Call, Look, Library, step_by, run_by, look, read, write, seek}

-- what a caller gives to be written are bytes
abbrev pub Given : Call → Type 0
Given c = (h : ℕ) (bs : List ℕ) → c ≡ write h bs → Bytes bs

abbrev pub AllGiven : List Call → Type 0
AllGiven [] = Unit {0}
AllGiven (c ∷ cs) = Given c × AllGiven cs

-- "From any sound volume"; the open table may hold any bytes
pub record Begins (k : Kind) (w : World) : Type 0 where
  pub of_kind : OfKind w.image k
  pub sound : Sound k w.image
  pub bytes : Bytes w.image

-- "after any run of calls", and so after each of its calls
abbrev pub AfterAnyRun : Library → (Kind → World → Type 0) → Type 0
AfterAnyRun lib P = (k : Kind) (w : World) → Begins k w → (cs : List Call) → AllGiven cs → P k (run_by lib w cs)

-- "sound after each call", and of the kind that it was
abbrev pub SoundAfterEach : Library → Type 0
SoundAfterEach lib = AfterAnyRun lib Begins

-- "every file holds the bytes that the history gives it": fs are the files of the first volume
abbrev pub FilesOfHistory : Library → Type 0
FilesOfHistory lib = (k : Kind) (w : World) → Begins k w → (fs : Files) → Shows k w.image fs → (cs : List Call) → AllGiven cs
    → ((gs : Files) × History lib k w cs fs gs) × ((gs : Files) → History lib k w cs fs gs → Shows k (run_by lib w cs).image gs)

-- and a sound volume has files to begin with
abbrev pub FirstFiles : Type 0
FirstFiles = (k : Kind) (w : World) → Begins k w → (fs : Files) × Shows k w.image fs

-- a read that ends well answers those bytes, as many as buffer and file allow
abbrev pub ReadsAreOfHistory : Library → Type 0
ReadsAreOfHistory lib = AfterAnyRun lib (λ k w. (h : ℕ) (buffer : List ℕ) (s : ℕ) (f : File) →
    let o = lib (read h buffer) w in
    let pointer = pointer_of w.table h in
    o.number ≡ 0 → Names (read h buffer) k w s → Holds k w.image s f
    → (o.value ≡ read_count (length buffer) (length f.bytes) pointer)
    × (o.buffer ≡ stored buffer 0 (part f.bytes pointer o.value)))

-- a seek that ends well answers where its offset leads: "from 0, from the pointer or from the size (methods 0, 1, 2)". The size is
-- that of the history.
abbrev pub SeeksAreOfHistory : Library → Type 0
SeeksAreOfHistory lib = AfterAnyRun lib (λ k w. (h method : ℕ) (offset : ℤ) (s : ℕ) (f : File) →
    let o = lib (seek h method offset) w in
    o.number ≡ 0 → Names (seek h method offset) k w s → Holds k w.image s f
    → pos o.value ≡ pos (cond (eqb method 0) 0 (cond (eqb method 1) (pointer_of w.table h) (length f.bytes))) +ℤ offset)

-- a call that does not only look names one file if it ends well, and one only
abbrev pub NamesAFile : Library → Type 0
NamesAFile lib = AfterAnyRun lib (λ k w. (c : Call) → Given c → ((x : Look) → c ≢ look x) → (lib c w).number ≡ 0
    → (s : ℕ) × Names c k w s × ((t : ℕ) → Names c k w t → t ≡ s))

-- slot s of image m has the 32 bytes of entry that it has in image l, and the same file (name, attribute, bytes) or none
abbrev pub SameFile : Kind → ℕ → List ℕ → List ℕ → Type 0
SameFile k s l m = SameBytes m (slot_at k s) l (slot_at k s) × ((o : Option File) → ShowsAt k l s o → ShowsAt k m s o)

-- "a call alters no file but the one it names"
abbrev pub AltersNoOther : Library → Type 0
AltersNoOther lib = AfterAnyRun lib (λ k w. (c : Call) → Given c → (s : ℕ) → s < root_entries k → ¬ Names c k w s
    → SameFile k s w.image (step_by lib w c).image)

-- "The total in demand 3 has four parts": free, held, bad, reserved. Held is "the sum of chain lengths, each defined by its list of
-- clusters": lists are the files' chains, which a sound volume has.
abbrev pub TotalAfterEach : Library → Type 0
TotalAfterEach lib = AfterAnyRun lib (λ k w. (lists : ℕ → List ℕ) → AreChains k w.image lists →
    let l = w.image in free_of k l + held_of k l lists + bad_of k l + reserved_of k l ≡ clusters k)

-- "a write falls short only where the file's own clusters and all free ones end before its last byte"; and then it fills them. The
-- file's clusters are the list cs.
abbrev pub ShortOnlyWhereFull : Library → Type 0
ShortOnlyWhereFull lib = AfterAnyRun lib (λ k w. (h : ℕ) (bs : List ℕ) (s : ℕ) (cs : List ℕ) →
    let o = lib (write h bs) w in
    let room = (length cs + free_of k w.image) * cluster_bytes k in
    let pointer = pointer_of w.table h in
    o.number ≡ 0 → Names (write h bs) k w s → ChainOf k w.image s cs
    → (o.value ≤ length bs)
    × (o.value < length bs → (room < pointer + length bs) × (0 < o.value → pointer + o.value ≡ room)))

-- "Write uses the file's spare clusters first": where all clusters of the file, the list cs, reach to the last byte given, no byte
-- before the root is altered, so no table entry, and the start stays
abbrev pub SpareFirst : Library → Type 0
SpareFirst lib = AfterAnyRun lib (λ k w. (h : ℕ) (bs : List ℕ) (s : ℕ) (cs : List ℕ) →
    let m = (step_by lib w (write h bs)).image in
    (lib (write h bs) w).number ≡ 0 → Names (write h bs) k w s → ChainOf k w.image s cs
    → pointer_of w.table h + length bs ≤ length cs * cluster_bytes k
    → ((j : ℕ) → j < root_at k → get_or m j 0 ≡ get_or w.image j 0) × (start_of m (slot_at k s) ≡ start_of w.image (slot_at k s)))

-- a call that only looks alters nothing
abbrev pub LooksAlterNothing : Library → Type 0
LooksAlterNothing lib = (w : World) (x : Look) → step_by lib w (look x) ≡ w

-- "A call that refuses .. leaves volume, table and buffers exactly as they came"
abbrev pub RefusalsLeaveAll : Library → Type 0
RefusalsLeaveAll lib = (w : World) (c : Call) → (lib c w).number ≢ 0 → step_by lib w c ≡ w

abbrev pub RefusedReadsLeaveBuffer : Library → Type 0
RefusedReadsLeaveBuffer lib = (w : World) (h : ℕ) (buffer : List ℕ) →
    let o = lib (read h buffer) w in
    o.number ≢ 0 → o.buffer ≡ buffer
