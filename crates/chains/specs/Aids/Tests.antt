-- A test together with what it decides.
use Rattle.std.specs.Prelude.{Bool, true, false, ◌≡◌}

-- the test b is true exactly where P holds
pub data Says (b : Bool) (P : Type 0) : Type 0 where
  aye : b ≡ true → P → Says b P
  nay : b ≡ false → ¬ P → Says b P
