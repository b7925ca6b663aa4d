-- Numbers of several bytes, the low byte first.
use Rattle.std.specs.Prelude.{ℕ, zero, suc, ◌+◌, ◌*◌, ◌/◌, ◌%◌, List, [], ◌∷◌, get_or}

-- the number that the w bytes of l from byte at on hold
unfoldable pub number : List ℕ → ℕ → ℕ → ℕ
number l at zero = 0
number l at (suc w) = get_or l at 0 + 256 * number l (at + 1) w

-- the w bytes that hold the number n
unfoldable pub digits : ℕ → ℕ → List ℕ
digits n zero = []
digits n (suc w) = n % 256 ∷ digits (n / 256) w
