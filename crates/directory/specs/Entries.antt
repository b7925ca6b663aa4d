-- An entry as a whole: the values that it holds, and the bytes.
use Rattle.std.specs.Prelude.{ℕ, ◌+◌, ◌<◌, List, ◌≡◌, get_or, replicate}
use Rattle.fields.specs.Fields.{name_of, attr_of, reserved_bytes, time_of, date_of, start_of, size_of}

-- the fields of a fresh entry: name, attribute, zero reserved bytes, time, date, start, size
pub record HasFields (l : List ℕ) (a : ℕ) (n : List ℕ) (v t d s z : ℕ) : Type 0 where
  pub name : name_of l a ≡ n
  pub attr : attr_of l a ≡ v
  pub reserved : reserved_bytes l a ≡ replicate 10 0
  pub time : time_of l a ≡ t
  pub date : date_of l a ≡ d
  pub start : start_of l a ≡ s
  pub size : size_of l a ≡ z

-- the 32 bytes of l from byte a on are those of m from byte b on
abbrev pub SameBytes : List ℕ → ℕ → List ℕ → ℕ → Type 0
SameBytes l a m b = (i : ℕ) → i < 32 → get_or l (a + i) 0 ≡ get_or m (b + i) 0
