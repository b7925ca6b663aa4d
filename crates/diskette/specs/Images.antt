-- Of which kind an image is, and a system area alone.
use Rattle.std.specs.Prelude.{ℕ, ◌*◌, ◌≤◌, Bool, cond, List, ◌≡◌, eqb, leb, length, get_or, Option, Some, None}
use Rattle.diskette.specs.Kinds.{named}
use Rattle.diskette.specs.Places.{first_data}
use Rattle.diskette.specs.declared.Kind.{Kind}

-- An image is of a kind when its length is that kind's sectors times 512 and byte 512 is the kind byte.
pub record OfKind (img : List ℕ) (k : Kind) : Type 0 where
  pub listed : named k.byte ≡ Some k
  pub long : length img ≡ 512 * k.sectors
  pub byte : get_or img 512 0 ≡ k.byte

-- The system area is all sectors before the first data sector; the kind is taken from byte 512 and extra bytes are ignored.
pub record AreaOf (area : List ℕ) (k : Kind) : Type 0 where
  pub listed : named k.byte ≡ Some k
  pub long : 512 * first_data k ≤ length area
  pub byte : get_or area 512 0 ≡ k.byte

-- ---- the same as functions: the kind, or none

-- the kind that was found, if the test is true of it
abbrev pub only_if : (Kind → Bool) → Option Kind → Option Kind
only_if test (Some k) = cond (test k) (Some k) None
only_if test None = None

unfoldable pub kind_of_image : List ℕ → Option Kind
kind_of_image img = only_if (λ k. eqb (length img) (512 * k.sectors)) (named (get_or img 512 0))

unfoldable pub kind_of_area : List ℕ → Option Kind
kind_of_area area = only_if (λ k. leb (512 * first_data k) (length area)) (named (get_or area 512 0))
