-- Sums over a range of numbers, and counts.
use Rattle.std.specs.Prelude.{ℕ, zero, suc, ◌+◌, Bool, true, false}

-- 1 for true, 0 for false
abbrev pub bit : Bool → ℕ
bit true = 1
bit false = 0

-- the sum of g i over i < n
unfoldable pub sum : ℕ → (ℕ → ℕ) → ℕ
sum zero g = 0
sum (suc n) g = sum n g + g n

-- at how many of the n numbers from c on the test t is true: counted from below, as a loop does
unfoldable pub tally : (ℕ → Bool) → ℕ → ℕ → ℕ
tally t zero c = 0
tally t (suc n) c = bit (t c) + tally t n (suc c)
