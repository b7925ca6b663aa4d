-- Handles, of any library: what open and create hand out, that a handle keeps its file, and what a call makes of the open table.
use Rattle.std.specs.Prelude.{ℕ, ◌+◌, ◌<◌, Bool, true, false, ◌||◌, List, ◌≢◌, ◌≡◌, ltb}
use Rattle.image.specs.Bytes.{Bytes}
use Rattle.diskette.specs.declared.Kind.{Kind}
use Rattle.search.specs.Search.{Lowest}
use Rattle.stamps.specs.declared.Stamp.{Stamp}
use Rattle.opened.specs.Changes.{PlaceHolds, OnlyAt}
use Rattle.opened.specs.Records.{place_count, used_of, slot_of, access_of, pointer_of, written_of}
use Rattle.history.specs.Meant.{Reaches, Names}
use Rattle.history.specs.Promises.{Given, AfterAnyRun}
use Rattle.history.specs.World.{World, Call, Library, step_by, look, open_file, create, read, write, seek, close, delete, rename, mode}

-- handle h, handed out between the worlds w and u: "the lowest unused place, pointer 0", and it reaches slot s
pub record HandedOut (k : Kind) (w u : World) (h access s : ℕ) : Type 0 where
  pub lowest : Lowest ltb (λ p. (p < place_count w.table) × (used_of w.table p ≡ false)) h
  pub holds : PlaceHolds u.table h true access s 0 false
  pub reaches : Reaches k u h s

-- a call that ends well answers a handle of the file that it names
abbrev pub HandsOut : Library → Kind → World → Call → ℕ → Type 0
HandsOut lib k w c access =
    (lib c w).number ≡ 0 → (s : ℕ) → Names c k w s → HandedOut k w (step_by lib w c) (lib c w).value access s

-- so do open, with the access that is given, and create: "Opened with access 2"
abbrev pub HandsOutItsFile : Library → Type 0
HandsOutItsFile lib = AfterAnyRun lib (λ k w. ((name : List ℕ) (access : ℕ) → HandsOut lib k w (open_file name access) access)
    × ((name : List ℕ) (attr : ℕ) (stamp : Stamp) → HandsOut lib k w (create name attr stamp) 2))

-- a handle that reaches a file reaches it after any call but a close of that handle that ends well
abbrev pub HandlesKeepTheirFiles : Library → Type 0
HandlesKeepTheirFiles lib = AfterAnyRun lib (λ k w. (c : Call) → Given c → (h s : ℕ) → Reaches k w h s
    → ((stamp : Stamp) → c ≡ close h stamp → (lib c w).number ≢ 0) → Reaches k (step_by lib w c) h s)

-- m is t but for the pointer and the written mark of place h
abbrev pub Moved : List ℕ → List ℕ → ℕ → ℕ → Bool → Type 0
Moved t m h pointer written = OnlyAt h m t × PlaceHolds m h (used_of t h) (access_of t h) (slot_of t h) pointer written

-- what a call that ends well and answers v makes of the open table t
abbrev pub TableBecomes : Call → ℕ → List ℕ → List ℕ → Type 0
TableBecomes (open_file name access) v t m = OnlyAt v m t
TableBecomes (create name attr stamp) v t m = OnlyAt v m t
TableBecomes (read h buffer) v t m = Moved t m h (pointer_of t h + v) (written_of t h)
TableBecomes (write h bs) v t m = Moved t m h (pointer_of t h + v) (ltb 0 v || written_of t h)
TableBecomes (seek h method offset) v t m = Moved t m h v (written_of t h)
TableBecomes (close h stamp) v t m = OnlyAt h m t × PlaceHolds m h false 0 0 0 false
TableBecomes (delete name) v t m = m ≡ t
TableBecomes (rename name new) v t m = m ≡ t
TableBecomes (mode name function attr) v t m = m ≡ t
TableBecomes (look x) v t m = m ≡ t

-- "A read or write that ends well moves the pointer by the count", seek "moves that place's pointer and nothing else, and answers it".
-- The open table is bytes, and stays so.
abbrev pub PointersMove : Library → Type 0
PointersMove lib = AfterAnyRun lib (λ k w. (c : Call) → Bytes w.table → (lib c w).number ≡ 0
    → TableBecomes c (lib c w).value w.table (lib c w).table × Bytes (lib c w).table)
