-- The three bytes that hold an entry and its neighbour, and a word of them with an entry put in.
use Rattle.std.specs.Prelude.{ℕ, ◌+◌, ◌*◌, ◌/◌, Bool, List}
use Rattle.image.specs.Store.{stored}
use Rattle.image.specs.Numbers.{number, digits}
use Rattle.values.specs.Bits.{kept}

-- where the three bytes with entry n start, in the copy at byte base
abbrev pub triple_at : ℕ → ℕ → ℕ
triple_at base n = base + n / 2 * 3

-- l with v put into the word at byte at
unfoldable pub with_word : Bool → List ℕ → ℕ → ℕ → List ℕ
with_word e l at v = stored l at (digits (kept e (number l at 2) v) 2)
