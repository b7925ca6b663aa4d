-- The tare stays: "a file that is read-only, and whose slot no used place names when the run begins, has the same 32 bytes of entry
-- and the same contents after any run in which no call sets its mode".
use Rattle.std.specs.Prelude.{ℕ, true, false, List, [], ◌∷◌, ◌≡◌}
use Rattle.diskette.specs.declared.Kind.{Kind}
use Rattle.opened.specs.Places.{is_open}
use Rattle.sound.specs.Files.{IsFile}
use Rattle.calls.specs.Refusals.{read_only}
use Rattle.history.specs.Meant.{Names}
use Rattle.history.specs.Promises.{AllGiven, AfterAnyRun, SameFile}
use Rattle.history.specs.World.{World, Call, Library, step_by, run_by, mode}

-- when the run begins, a plain file stands in slot s, it is read-only, and no used place names its slot
pub record Tare (k : Kind) (w : World) (s : ℕ) : Type 0 where
  pub is_file : IsFile k w.image s
  pub marked : read_only w.image s ≡ true
  pub closed : is_open w.table s ≡ false

-- a call sets the mode of the file in slot s: file mode with function 1 on its name, and not refused
pub record SetsMode (lib : Library) (k : Kind) (w : World) (c : Call) (s : ℕ) : Type 0 where
  pub name : List ℕ
  pub attr : ℕ
  pub call : c ≡ mode name 1 attr
  pub named : Names c k w s
  pub well : (lib c w).number ≡ 0

-- no call of the run does, each in the world that it meets
abbrev pub NoModeSet : Library → Kind → World → List Call → ℕ → Type 0
NoModeSet lib k w [] s = Unit {0}
NoModeSet lib k w (c ∷ cs) s = (¬ SetsMode lib k w c s) × NoModeSet lib k (step_by lib w c) cs s

-- the run may begin after any other
abbrev pub TareStays : Library → Type 0
TareStays lib = AfterAnyRun lib (λ k w. (s : ℕ) → Tare k w s → (cs : List Call) → AllGiven cs → NoModeSet lib k w cs s
    → SameFile k s w.image (run_by lib w cs).image)
