-- Which clusters may be taken.
use Rattle.std.specs.Prelude.{ℕ, List, ◌≡◌}
use Rattle.chains.specs.Lists.{◌∈◌}
use Rattle.chains.specs.Values.{Link}
use Rattle.chains.specs.Aids.Lists.{Once}

-- clusters that may be taken: in range, free, each once
pub record Takable (last : ℕ) (f : ℕ → ℕ) (new : List ℕ) : Type 0 where
  pub range : (a : ℕ) → a ∈ new → Link last a
  pub unused : (a : ℕ) → a ∈ new → f a ≡ 0
  pub each : Once new
