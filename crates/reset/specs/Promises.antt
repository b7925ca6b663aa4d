-- What stands after a reset in the middle of a save, and what rescue brings off the disk.
use Rattle.std.specs.Prelude.{ℕ, List, [], ◌∷◌, ◌≡◌, length, take}
use Rattle.image.specs.Store.{stored}
use Rattle.diskette.specs.declared.Kind.{Kind}
use Rattle.names.specs.Spelling.{Means}
use Rattle.sound.specs.Files.{IsFile}
use Rattle.rescuing.specs.Rescue.{rescue_count}
use Rattle.changes.specs.Files.{File, Holds}
use Rattle.history.specs.Meant.{Names}
use Rattle.history.specs.Promises.{AllGiven, AfterAnyRun}
use Rattle.history.specs.Tare.{Tare, NoModeSet}
use Rattle.history.specs.World.{World, Call, Library, world, step_by, run_by, look, rescue}
use Rattle.reset.specs.Torn.{Torn, Stands}

-- ---- what stands

-- m is a disk that a run from w on may leave: cs are its calls up to the last save that ended, ds those since, and none sets the
-- mode of the file in slot s
pub record LeftByRun (lib : Library) (k : Kind) (w : World) (s : ℕ) (cs ds : List Call) (m : List ℕ) : Type 0 where
  pub given : AllGiven cs × AllGiven ds
  pub no_mode : NoModeSet lib k w cs s × NoModeSet lib k (run_by lib w cs) ds s
  pub torn : Torn (run_by lib w cs).image (run_by lib (run_by lib w cs) ds).image m

-- on each such disk the tare stands as it was when the run began; the run may begin after any other
abbrev pub TareThroughReset : Library → Type 0
TareThroughReset lib = AfterAnyRun lib (λ k w. (s : ℕ) → Tare k w s
    → (cs ds : List Call) (m : List ℕ) → LeftByRun lib k w s cs ds m → Stands k s w.image m)

-- no call of a run names the file in slot s, each in the world that it meets
abbrev pub NoneNames : Library → Kind → World → List Call → ℕ → Type 0
NoneNames lib k w [] s = Unit {0}
NoneNames lib k w (c ∷ cs) s = (¬ Names c k w s) × NoneNames lib k (step_by lib w c) cs s

-- so does every file that no call since the last save names, be it one call or many: w is the world at that save
abbrev pub OthersThroughReset : Library → Type 0
OthersThroughReset lib = AfterAnyRun lib (λ k w. (s : ℕ) → IsFile k w.image s
    → (cs : List Call) → AllGiven cs → NoneNames lib k w cs s
    → (m : List ℕ) → Torn w.image (run_by lib w cs).image m → Stands k s w.image m)

-- ---- what rescue gives

-- from the disk m, by any spelling of the file's name, it ends well with the first of the file's bytes, as many as out allows, at
-- the front of out; the open table may hold any bytes
abbrev pub Rescued : Library → List ℕ → File → Type 0
Rescued lib m f = (name : List ℕ) → Means name f.name → (table out : List ℕ) →
    let o = lib (look (rescue name out)) (world m table) in
    (o.number ≡ 0) × (o.value ≡ rescue_count (length out) (length f.bytes)) × (o.buffer ≡ stored out 0 (take o.value f.bytes))

-- on each disk that a run may leave rescue gives the tare, byte for byte
abbrev pub RescuedAfterReset : Library → Type 0
RescuedAfterReset lib = AfterAnyRun lib (λ k w. (s : ℕ) → Tare k w s
    → (cs ds : List Call) (m : List ℕ) → LeftByRun lib k w s cs ds m
    → (f : File) → Holds k w.image s f → Rescued lib m f)

-- and every file that no call since the last save names
abbrev pub OthersRescuedAfterReset : Library → Type 0
OthersRescuedAfterReset lib = AfterAnyRun lib (λ k w. (s : ℕ) (f : File) → Holds k w.image s f
    → (cs : List Call) → AllGiven cs → NoneNames lib k w cs s
    → (m : List ℕ) → Torn w.image (run_by lib w cs).image m → Rescued lib m f)
