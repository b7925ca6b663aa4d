-- An answer put together.
use Rattle.std.specs.Prelude.{ℕ, ◌≡◌}
use Rattle.packing.specs.Packing.{upper, lower}

-- an answer that has this number and this value
pub record Packs (number value answer : ℕ) : Type 0 where
  pub number_is : upper answer ≡ number
  pub value_is : lower answer ≡ value
