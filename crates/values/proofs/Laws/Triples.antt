-- Two entries in three bytes, on numbers alone: what an entry's two bytes say is what its word says, and one entry put in leaves the
-- other. (`omega` reasons over fractions: it is given a quotient first.)
use Rattle.std.specs.Prelude.{ℕ, ◌+◌, ◌*◌, ◌/◌, ◌%◌, ◌<◌, true, false, ◌≡◌}
use Rattle.std.proofs.Common.{arith}
use Rattle.values.specs.Bits.{taken, kept}

-- ---- an entry taken from its two bytes

pub first_taken : (low middle : ℕ) → low < 256 → low + middle % 16 * 256 ≡ taken true (low + 256 * middle)
unfolding taken
first_taken low middle h = let q : (low + 256 * middle) / 4096 ≡ middle / 16 = omega arith in omega arith

pub second_taken : (middle high : ℕ) → middle / 16 + high * 16 ≡ taken false (middle + 256 * high)
unfolding taken
second_taken middle high = omega arith

-- ---- an entry put into its two bytes

-- all of the first entry's low byte is its own, and so is all of the second one's high byte: what stood there does not matter
pub first_any_low : (low middle v : ℕ) → low < 256 → kept true (low + 256 * middle) v ≡ kept true (256 * middle) v
unfolding kept
first_any_low low middle v h =
    let q : (low + 256 * middle) / 4096 ≡ middle / 16 = omega arith in
    let s : 256 * middle / 4096 ≡ middle / 16 = omega arith in
    rw (q, s)

pub second_any_high : (middle high v : ℕ) → kept false (middle + 256 * high) v ≡ kept false middle v
unfolding kept
second_any_high middle high v = let q : (middle + 256 * high) % 16 ≡ middle % 16 = omega arith in rw q

-- the two bytes of the word with v put in
pub first_low : (w v : ℕ) → v % 256 ≡ kept true w v % 256
unfolding kept
first_low w v = omega arith

pub first_middle : (middle v : ℕ) → middle / 16 * 16 + v / 256 ≡ kept true (256 * middle) v / 256
unfolding kept
first_middle middle v = let s : 256 * middle / 4096 ≡ middle / 16 = omega arith in rw s (omega arith)

pub second_middle : (middle v : ℕ) → middle % 16 + v % 16 * 16 ≡ kept false middle v % 256
unfolding kept
second_middle middle v = omega arith

pub second_high : (middle v : ℕ) → v / 16 ≡ kept false middle v / 256
unfolding kept
second_high middle v = omega arith

-- ---- the other entry

-- the next entry's word begins with the second byte of an even entry's
pub taken_after : (a b c v : ℕ) → a < 256 → b < 256 → v < 4096 → taken false (kept true (a + 256 * b) v / 256 % 256 + 256 * c) ≡ taken false (b + 256 * c)
unfolding taken kept
taken_after a b c v ha hb hv =
    let q : (a + 256 * b) / 4096 ≡ b / 16 = omega arith in
    let s : (b / 16 * 4096 + v) / 256 ≡ b / 16 * 16 + v / 256 = omega arith in
    rw (q, s) (omega arith)

-- the word of the entry before an odd one ends with the first byte of the odd one's
pub taken_before : (z a b v : ℕ) → z < 256 → taken true (z + 256 * (kept false (a + 256 * b) v % 256)) ≡ taken true (z + 256 * a)
unfolding kept
taken_before z a b v hz =
    let q : (a + 256 * b) % 16 ≡ a % 16 = omega arith in
    let s : (v * 16 + a % 16) % 256 % 16 ≡ a % 16 = omega arith in
    rw (q, ← first_taken z ((v * 16 + a % 16) % 256) hz, ← first_taken z a hz, s)
