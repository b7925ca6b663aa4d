-- Entries of the table: 12 bits each, two of them in three bytes. A copy of the table starts at byte base: copy 1 at copy_one,
-- copy 2 at byte second.
use Rattle.std.specs.Prelude.{ℕ, ◌+◌, ◌*◌, ◌/◌, cond, ◌&&◌, List, leb}
use Rattle.image.specs.Store.{stored}
use Rattle.image.specs.Numbers.{number, digits}
use Rattle.diskette.specs.Places.{copy_one}
use Rattle.values.specs.Bits.{even, taken, kept}

-- "Entry n is the 16-bit little-endian word at byte n times 3 divided by 2, rounded down"
abbrev pub word_at : ℕ → ℕ → ℕ
word_at base n = base + n * 3 / 2

-- entry n of the copy at byte base
unfoldable pub entry_at : ℕ → List ℕ → ℕ → ℕ
entry_at base l n = taken (even n) (number l (word_at base n) 2)

-- l with v stored as that entry
unfoldable pub set_at : ℕ → List ℕ → ℕ → ℕ → List ℕ
set_at base l n v = stored l (word_at base n) (digits (kept (even n) (number l (word_at base n) 2) v) 2)

-- entry n: that of copy 1
abbrev pub entry_of : List ℕ → ℕ → ℕ
entry_of l n = entry_at copy_one l n

-- l with v stored as entry n "in both copies"
unfoldable pub set_both : ℕ → List ℕ → ℕ → ℕ → List ℕ
set_both second l n v = set_at second (set_at copy_one l n v) n v

-- the table as a function: the entry of each cluster, and 0 where there is no cluster
unfoldable pub table_of : ℕ → List ℕ → ℕ → ℕ
table_of last l c = cond (leb 2 c && leb c last) (entry_of l c) 0
