-- What is left of an entry where bytes change.
use Rattle.std.specs.Prelude.{ℕ, ◌+◌, List, ◌≡◌, get_or}
use Rattle.image.specs.Aids.Ranges.{Outside, Apart}
use Rattle.fields.specs.Fields.{name_of, attr_of, reserved_bytes, time_of, date_of, start_of, size_of}
use Rattle.directory.specs.Slots.{standing_of}

-- the entry of l at a and the entry of m at b have the same fields and stand for the same
pub record SameFields (l : List ℕ) (a : ℕ) (m : List ℕ) (b : ℕ) : Type 0 where
  pub name : name_of l a ≡ name_of m b
  pub attr : attr_of l a ≡ attr_of m b
  pub reserved : reserved_bytes l a ≡ reserved_bytes m b
  pub time : time_of l a ≡ time_of m b
  pub date : date_of l a ≡ date_of m b
  pub start : start_of l a ≡ start_of m b
  pub size : size_of l a ≡ size_of m b
  pub standing : standing_of l a ≡ standing_of m b

-- m has of l's entry at a every field with which the n bytes from byte p on have nothing in common
pub record Untouched (m l : List ℕ) (p n a : ℕ) : Type 0 where
  pub first : Outside p n a → get_or m a 0 ≡ get_or l a 0
  pub name : Apart p n a 11 → name_of m a ≡ name_of l a
  pub attr : Outside p n (a + 11) → attr_of m a ≡ attr_of l a
  pub reserved : Apart p n (a + 12) 10 → reserved_bytes m a ≡ reserved_bytes l a
  pub time : Apart p n (a + 22) 2 → time_of m a ≡ time_of l a
  pub date : Apart p n (a + 24) 2 → date_of m a ≡ date_of l a
  pub start : Apart p n (a + 26) 2 → start_of m a ≡ start_of l a
  pub size : Apart p n (a + 28) 4 → size_of m a ≡ size_of l a
  pub standing : Outside p n a → Outside p n (a + 11) → standing_of m a ≡ standing_of l a
