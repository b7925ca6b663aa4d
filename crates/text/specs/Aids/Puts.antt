-- What it means that a text is put into a lent buffer.
use Rattle.std.specs.Prelude.{ℕ, ◌+◌, ◌≤◌, List, ◌≡◌, length}
use Rattle.image.specs.Store.{stored}

-- the buffer l has become m, which holds the text from byte at on and is else as it was; the answer r is the place after the text
pub record Puts (text l : List ℕ) (at r : ℕ) (m : List ℕ) : Type 0 where
  pub stores : m ≡ stored l at text
  pub next : r ≡ at + length text

-- the same, and the text has at most so many bytes
pub record PutsIn (most : ℕ) (text l : List ℕ) (at r : ℕ) (m : List ℕ) : Type 0 where
  pub puts : Puts text l at r m
  pub room : r ≤ at + most
