-- The 12 bits of entry n in the 16 bits of its word.
use Rattle.std.specs.Prelude.{ℕ, ◌+◌, ◌*◌, ◌/◌, ◌%◌, Bool, true, false, eqb}

abbrev pub even : ℕ → Bool
even n = eqb (n % 2) 0

-- "low 12 bits for even n, high 12 for odd"
unfoldable pub taken : Bool → ℕ → ℕ
taken true w = w % 4096
taken false w = w / 16

-- the word with v put in. "Writing it keeps the neighbour's four bits"
unfoldable pub kept : Bool → ℕ → ℕ → ℕ
kept true w v = w / 4096 * 4096 + v
kept false w v = v * 16 + w % 16
