-- What the number of a function asks for.
use Rattle.std.specs.Prelude.{ℕ, ◌<◌, ◌≡◌, Result, MatchResult}
use Rattle.calls.specs.declared.refusal.Refusal.{Refusal}
use Rattle.calls.specs.declared.refusal.Refusal.TheVariants.{InvalidFunction}
use Rattle.marking.specs.declared.mode.Function.{Function}
use Rattle.marking.specs.declared.mode.Function.TheVariants.{Tell, Set}

abbrev pub number_of : Function → ℕ
number_of Tell = 0
number_of Set = 1

-- a number above 1 asks for nothing
abbrev pub AsksFor : ℕ → Result Function Refusal → Type 0
AsksFor n r = MatchResult r (λ f. number_of f ≡ n) (λ e. (e ≡ InvalidFunction) × (1 < n))
