-- What every call does first: rows 40 and 41, else the kind and how many clusters are free.
use Rattle.std.specs.Prelude.{ℕ, List, Option, Some, None, Result, Ok, Err, ◌≡◌, true}
use Rattle.diskette.specs.Images.{kind_of_image}
use Rattle.diskette.specs.declared.Kind.{Kind}
use Rattle.sound.specs.Judged.{check_of, is_sound}
use Rattle.sound.specs.declared.Counts.{Counts}
use Rattle.sound.specs.declared.Finding.{Finding}
use Rattle.calls.specs.declared.refusal.Refusal.{Refusal}
use Rattle.calls.specs.declared.refusal.Refusal.TheVariants.{OfNoKind, Unsound}

abbrev pub ready_with : Kind → Result Counts Finding → Result (Kind × ℕ) Refusal
ready_with k (Ok counts) = Ok (k, counts.free)
ready_with k (Err finding) = Err Unsound

abbrev pub ready_by : Option Kind → Result Counts Finding → Result (Kind × ℕ) Refusal
ready_by (Some k) v = ready_with k v
ready_by None v = Err OfNoKind

unfoldable pub ready_of : List ℕ → Result (Kind × ℕ) Refusal
ready_of img = ready_by (kind_of_image img) (check_of img)

-- the image is a sound volume of the kind k
pub record OnVolume (img : List ℕ) (k : Kind) : Type 0 where
  pub known : kind_of_image img ≡ Some k
  pub sound : is_sound img ≡ true
