-- What a call comes to. It is refused or only looks; or it names a slot and ends well, and then the image stays, and the file with
-- it, or that slot is changed.
use Rattle.std.specs.Prelude.{ℕ, List, ◌≢◌, ◌⊎◌, ◌↔◌, ◌≡◌, Option}
use Rattle.image.specs.Bytes.{Bytes}
use Rattle.diskette.specs.declared.Kind.{Kind}
use Rattle.changes.specs.Aids.Changed.{SlotChanged}
use Rattle.changes.specs.Files.{File, ShowsAt}
use Rattle.history.specs.Aids.Ours.{step}
use Rattle.history.specs.History.{Becomes}
use Rattle.history.specs.Meant.{Names}
use Rattle.history.specs.World.{World, Call, Look, ours, look}

-- the call ends well and names slot s
pub record Does (k : Kind) (w : World) (c : Call) (s : ℕ) : Type 0 where
  pub well : (ours c w).number ≡ 0
  pub named : Names c k w s

-- slot s is changed, and has what the history says
pub record Changes (k : Kind) (w : World) (c : Call) (s : ℕ) (ds : List ℕ) : Type 0 where
  pub changed : SlotChanged k w.image (step w c).image s ds
  pub bytes : Bytes (step w c).image
  pub makes : (f : Option File) → (g : Option File) × Becomes c w (ours c w) f g
  pub there : (f g : Option File) → ShowsAt k w.image s f → Becomes c w (ours c w) f g → ShowsAt k (step w c).image s g

-- the history leaves the file that is named
abbrev pub Leaves : World → Call → Type 0
Leaves w c = (f g : Option File) → Becomes c w (ours c w) f g ↔ (g ≡ f)

pub data Came (k : Kind) (w : World) (c : Call) : Type 0 where
  idle : ((ours c w).number ≢ 0) ⊎ ((x : Look) × (c ≡ look x)) → (step w c).image ≡ w.image → Came k w c
  stays : (s : ℕ) → Does k w c s → (step w c).image ≡ w.image → Leaves w c → Came k w c
  changes : (s : ℕ) (ds : List ℕ) → Does k w c s → Changes k w c s ds → Came k w c
