-- Attributes that a caller may set.
use Rattle.std.specs.Prelude.{ℕ, ◌+◌, ◌*◌, ◌/◌, ◌%◌, ◌<◌, Bool, true, false, ◌≢◌, ◌≡◌, eqb}
use native.Mathlib.Omega.{arith}
use Rattle.std.proofs.Common.{sym, ◌∙◌}
use borrow.Author.Tests.{eq-eqb, ne_eqb, eqb-true, not-false}
use Rattle.calls.specs.Refusals.{bad_attr}

module _ (attr : ℕ) where
  pub attr_good : attr ≡ attr % 8 + attr / 32 % 2 * 32 → false ≡ bad_attr attr
  unfolding bad_attr
  attr_good e = rw (eq-eqb attr (attr % 8 + attr / 32 % 2 * 32) e)

  pub attr_bad : attr ≢ attr % 8 + attr / 32 % 2 * 32 → true ≡ bad_attr attr
  unfolding bad_attr
  attr_bad e = rw (ne_eqb attr (attr % 8 + attr / 32 % 2 * 32) e)

  -- they fit a byte
  pub attr_fits : (b : Bool) → b ≡ bad_attr attr → b ≡ false → attr < 256
  unfolding bad_attr
  attr_fits b is e =
      let q : attr ≡ attr % 8 + attr / 32 % 2 * 32 = eqb-true attr (attr % 8 + attr / 32 % 2 * 32) (not-false (eqb attr (attr % 8 + attr / 32 % 2 * 32)) (sym is ∙ e)) in
      omega arith
