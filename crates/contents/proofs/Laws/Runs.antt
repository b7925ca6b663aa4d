-- Runs on numbers alone: a run stays in its cluster, and where it ends before the bytes do, the next cluster begins.
use Rattle.std.specs.Prelude.{ℕ, ◌+◌, ◌*◌, ◌/◌, ◌%◌, ◌≤◌, ◌<◌, ◌≡◌}
use native.Mathlib.Omega.{arith}
use Rattle.std.proofs.Math.Nat.{div-eq_of_lt, mul-add-div_right, div-add-mod', mod-lt}
use Rattle.std.proofs.Common.{◌∙◌}
use Rattle.std.proofs.Math.Path.{ap}
use Rattle.contents.specs.Aids.Loops.{run_of}

module _ (cb p left : ℕ) (wide : 0 < cb) where
  pub run_left : run_of cb p left ≤ left
  unfolding run_of
  run_left = omega arith

  pub run_some : 0 < left → 0 < run_of cb p left
  unfolding run_of
  run_some h = omega (arith, mod-lt p wide)

  pub run_inside : p % cb + run_of cb p left ≤ cb
  unfolding run_of
  run_inside = omega (arith, mod-lt p wide)

  pub run_ends : run_of cb p left < left → (p + run_of cb p left) / cb ≡ p / cb + 1
  unfolding run_of
  run_ends h =
      let e : p + run_of cb p left ≡ (p / cb + 1) * cb + 0 = omega (arith, div-add-mod' p cb, mod-lt p wide) in
      ap (λ (z : ℕ). z / cb) e ∙ omega (arith, mul-add-div_right wide (p / cb + 1) 0, div-eq_of_lt wide)
