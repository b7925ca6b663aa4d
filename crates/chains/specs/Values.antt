-- What the value of a table entry may be. A table is a function from cluster to value; last is the last cluster's number.
use Rattle.std.specs.Prelude.{ℕ, ◌-◌, ◌≤◌, ◌≡◌, ◌⊎◌, Bool, ◌&&◌, leb, eqb}
use Rattle.chains.specs.Sums.{tally}

-- "2 to the last cluster, the next cluster". It is also what a cluster's own number must be.
abbrev pub Link : ℕ → ℕ → Type 0
Link last v = (2 ≤ v) × (v ≤ last)

-- "FF7, a bad cluster"
abbrev pub Bad : ℕ → Type 0
Bad v = v ≡ 0xff7

-- "FF0 to FF6, reserved"
abbrev pub Reserved : ℕ → Type 0
Reserved v = (0xff0 ≤ v) × (v ≤ 0xff6)

-- "FF8 to FFF the end"
abbrev pub End : ℕ → Type 0
End v = (0xff8 ≤ v) × (v ≤ 0xfff)

-- "a link or an end": the value of a cluster in a chain
abbrev pub Used : ℕ → ℕ → Type 0
Used last v = Link last v ⊎ End v

-- one of "the values above"; "000 free"
pub data Valid (last : ℕ) (v : ℕ) : Type 0 where
  free : v ≡ 0 → Valid last v
  used : Used last v → Valid last v
  bad : Bad v → Valid last v
  reserved : Reserved v → Valid last v

-- ---- the same as tests

abbrev pub freeb : ℕ → Bool
freeb v = eqb v 0

unfoldable pub linkb : ℕ → ℕ → Bool
linkb last v = leb 2 v && leb v last

abbrev pub badb : ℕ → Bool
badb v = eqb v 0xff7

abbrev pub reservedb : ℕ → Bool
reservedb v = leb 0xff0 v && leb v 0xff6

unfoldable pub endb : ℕ → Bool
endb v = leb 0xff8 v && leb v 0xfff

-- "numbers of table values": of how many clusters the value passes a test
unfoldable pub value_count : (ℕ → Bool) → ℕ → (ℕ → ℕ) → ℕ
value_count t last f = tally (λ c. t (f c)) (last - 1) 2
