-- "Free space answers free clusters, all clusters, 512 and sectors per cluster."
use Rattle.std.specs.Prelude.{ℕ, cond, List, ◌≡◌, Option, Some, None, Result, Ok, Err}
use Rattle.diskette.specs.Images.{kind_of_image}
use Rattle.diskette.specs.Places.{clusters}
use Rattle.diskette.specs.declared.Kind.{Kind}
use Rattle.sound.specs.Counts.{free_of}
use Rattle.sound.specs.Judged.{is_sound}
use Rattle.calls.specs.declared.refusal.Refusal.{Refusal}
use Rattle.calls.specs.declared.refusal.Refusal.TheVariants.{OfNoKind, Unsound}
use Rattle.freespace.specs.declared.Space.{Space}

-- of a volume of the kind k, so many of whose clusters are free
abbrev pub space_with : Kind → ℕ → Space
space_with k n = record { free = n; clusters = clusters k; sector = 512; per = k.per }

-- "40: image not of a kind", "41: volume not sound"
abbrev pub space_on : Option Kind → List ℕ → Result Space Refusal
space_on (Some k) l = cond (is_sound l) (Ok (space_with k (free_of k l))) (Err Unsound)
space_on None l = Err OfNoKind

unfoldable pub free_space : List ℕ → Result Space Refusal
free_space img = space_on (kind_of_image img) img

-- what the call promises of its answer
pub record Spaced (img : List ℕ) (answer : Result Space Refusal) : Type 0 where
  pub is : answer ≡ free_space img
