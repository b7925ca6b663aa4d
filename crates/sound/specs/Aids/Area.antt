-- Two volumes with the same system area, "all sectors before the first data sector".
use Rattle.std.specs.Prelude.{ℕ, ◌*◌, ◌≤◌, ◌<◌, List, ◌≡◌, length, get_or}
use Rattle.diskette.specs.Places.{first_data}
use Rattle.diskette.specs.declared.Kind.{Kind}

pub record SameArea (k : Kind) (m l : List ℕ) : Type 0 where
  pub left_long : 512 * first_data k ≤ length m
  pub right_long : 512 * first_data k ≤ length l
  pub bytes : (j : ℕ) → j < 512 * first_data k → get_or m j 0 ≡ get_or l j 0
