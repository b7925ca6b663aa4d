-- A quotient rounded up, in two ways.
use Rattle.std.proofs.Common.{arith, ℕ, ◌+◌, ◌-◌, ◌*◌, ◌/◌, ◌%◌, ◌<◌, ◌≡◌, min, ◌∙◌, sym, ap}
use Rattle.std.proofs.Math.Decide.{dec_lt}
use Rattle.std.proofs.lemmas.Nat.{div-mul-add, div-add-mod'}
use Rattle.chains.specs.Sizes.{clusters_for}
use Rattle.diskette.proofs.Kind.needed_for.Goals as goal

rounded_up : (n b : ℕ) → 0 < b → n / b + min 1 (n % b) ≡ (n + (b - 1)) / b
rounded_up n b h = let e : n / b * b + n % b ≡ n = div-add-mod' n b in elim (dec_lt 0 (n % b)) [
  | yes k ↦
      let f : (n / b + 1) * b + (n % b - 1) ≡ n + (b - 1) = omega arith in
      let g : n / b + 1 ≡ (n + (b - 1)) / b = sym (div-mul-add (n / b + 1) b (n % b - 1) (omega arith)) ∙ ap (λ x. x / b) f in
      omega arith
  | no k ↦
      let f : n / b * b + (b - 1) ≡ n + (b - 1) = omega arith in
      let g : n / b ≡ (n + (b - 1)) / b = sym (div-mul-add (n / b) b (b - 1) (omega arith)) ∙ ap (λ x. x / b) f in
      omega arith
]

pub returns : goal.returns
unfolding clusters_for
returns c = grind (arith, rounded_up)
