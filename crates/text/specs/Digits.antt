-- Numbers as text: "attr and kind are two hex digits, the rest decimal".
use Rattle.std.specs.Prelude.{ℕ, zero, suc, ◌+◌, ◌-◌, ◌/◌, ◌%◌, cond, List, [], ◌∷◌, ◌++◌, ltb}

-- the sign of a digit: 0 to 9, then A to F
unfoldable pub digit_sign : ℕ → ℕ
digit_sign d = cond (ltb d 10) (0x30 + d) (0x41 + (d - 10))

-- the last w digits of n in a base, with 0 before them where n has fewer
unfoldable pub in_digits : ℕ → ℕ → ℕ → List ℕ
in_digits base zero n = []
in_digits base (suc w) n = in_digits base w (n / base) ++ (digit_sign (n % base) ∷ [])

-- how many decimal digits n has: 0 has one. (n turns suffice.)
unfoldable pub width_in : ℕ → ℕ → ℕ
width_in zero n = 1
width_in (suc turns) n = cond (ltb n 10) 1 (1 + width_in turns (n / 10))

unfoldable pub width : ℕ → ℕ
width n = width_in n n

-- decimal, without leading zeros
unfoldable pub decimal : ℕ → List ℕ
decimal n = in_digits 10 (width n) n

-- two hex digits
unfoldable pub hex : ℕ → List ℕ
hex n = in_digits 16 2 n
