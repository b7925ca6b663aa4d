-- What a caller may give: an attribute that is not bad fits a byte, and has none of the bits 08, 10, 40 and 80.
use Rattle.std.specs.Prelude.{ℕ, ◌+◌, ◌*◌, ◌/◌, ◌%◌, ◌<◌, false, ◌≡◌, eqb}
use Rattle.std.proofs.Common.{arith, ne_eqb, eqb-true}
use Rattle.std.proofs.lemmas.Bool.{not-false}
use Rattle.directory.specs.Slots.{has_bit}
use Rattle.calls.specs.Refusals.{bad_attr}

pub record GoodAttr (attr : ℕ) : Type 0 where
  pub byte : attr < 256
  pub no_label : has_bit attr 0x08 ≡ false
  pub no_10 : has_bit attr 0x10 ≡ false
  pub no_40 : has_bit attr 0x40 ≡ false
  pub no_80 : has_bit attr 0x80 ≡ false

pub good_attr : (attr : ℕ) → bad_attr attr ≡ false → GoodAttr attr
unfolding bad_attr
good_attr attr e =
    let q : attr ≡ attr % 8 + attr / 32 % 2 * 32 = eqb-true attr (attr % 8 + attr / 32 % 2 * 32) (not-false (eqb attr (attr % 8 + attr / 32 % 2 * 32)) e) in
    let eighths : attr / 0x08 / 2 ≡ attr / 32 % 2 * 2 = omega arith in
    let halves : attr / 0x10 / 2 ≡ attr / 32 % 2 = omega arith in
    record {
      byte = omega arith;
      no_label = ne_eqb (attr / 0x08 % 2) 1 (λ x. omega arith);
      no_10 = ne_eqb (attr / 0x10 % 2) 1 (λ x. omega arith);
      no_40 = ne_eqb (attr / 0x40 % 2) 1 (λ x. omega arith);
      no_80 = ne_eqb (attr / 0x80 % 2) 1 (λ x. omega arith);
    }
