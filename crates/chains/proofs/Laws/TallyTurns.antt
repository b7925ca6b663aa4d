-- The loop that counts, turn by turn: n were counted, it stands at c, and end - c numbers are left.
use Rattle.std.specs.Prelude.{ℕ, suc, ◌+◌, ◌-◌, ◌≤◌, ◌<◌, ◌≡◌, refl, Bool, true, false}
use native.Mathlib.Omega.{arith}
use Rattle.std.proofs.Common.{sym, ap}
use Rattle.chains.specs.Sums.{tally, bit}

tally_one : (t : ℕ → Bool) (end c : ℕ) → c < end → tally t (end - c) c ≡ bit (t c) + tally t (end - (c + 1)) (c + 1)
unfolding tally
tally_one t end c l =
    let z : end - c ≡ suc (end - (c + 1)) = omega arith in
    let y : suc c ≡ c + 1 = omega arith in
    rw (z, tally, sym y) refl

pub tally_hit : (t : ℕ → Bool) (end c n m whole : ℕ) → c < end → t c ≡ true → m ≡ n + 1 → n + tally t (end - c) c ≡ whole → m + tally t (end - (c + 1)) (c + 1) ≡ whole
tally_hit t end c n m whole l e r w = omega (arith, tally_one t end c l, ap bit e)

pub tally_miss : (t : ℕ → Bool) (end c n m whole : ℕ) → c < end → t c ≡ false → m ≡ n → n + tally t (end - c) c ≡ whole → m + tally t (end - (c + 1)) (c + 1) ≡ whole
tally_miss t end c n m whole l e r w = omega (arith, tally_one t end c l, ap bit e)

pub tally_end : (t : ℕ → Bool) (end c n whole : ℕ) → end ≤ c → n + tally t (end - c) c ≡ whole → n ≡ whole
tally_end t end c n whole l w =
    let z : end - c ≡ 0 = omega arith in
    let u : tally t (end - c) c ≡ 0 = rw z (unfold tally in refl) in
    omega arith
