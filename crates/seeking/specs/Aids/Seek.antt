-- What the number of a method says.
use Rattle.std.specs.Prelude.{ℕ, ◌<◌, ◌≡◌, Result, MatchResult}
use Rattle.calls.specs.declared.refusal.Refusal.{Refusal}
use Rattle.calls.specs.declared.refusal.Refusal.TheVariants.{InvalidFunction}
use Rattle.seeking.specs.declared.seek.Method.{Method}
use Rattle.seeking.specs.declared.seek.Method.TheVariants.{Start, Pointer, Size}

abbrev pub number_of : Method → ℕ
number_of Start = 0
number_of Pointer = 1
number_of Size = 2

-- a number above 2 is none's
abbrev pub CountsBy : ℕ → Result Method Refusal → Type 0
CountsBy n r = MatchResult r (λ m. number_of m ≡ n) (λ e. (e ≡ InvalidFunction) × (2 < n))
