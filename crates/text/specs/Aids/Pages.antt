-- What it means that a text is put on a page.
use Rattle.std.specs.Prelude.{ℕ, ◌+◌, ◌≤◌, List, ◌≡◌, length}
use Rattle.text.specs.Aids.Puts.{Puts}
use Rattle.text.specs.declared.page.Page.{Page}

-- the page has room for so many bytes more
abbrev pub has_room : ℕ → Page → Type 0
has_room most p = p.at + most ≤ length p.out.now

-- the page p has become q: in the same buffer, of the same length, the text follows what p holds
pub record Adds (text : List ℕ) (p q : Page) : Type 0 where
  pub same : q.out.ghost_name ≡ p.out.ghost_name
  pub long : length q.out.now ≡ length p.out.now
  pub puts : Puts text p.out.now p.at q.at q.out.now

-- the same, and the text has at most so many bytes
pub record AddsIn (most : ℕ) (text : List ℕ) (p q : Page) : Type 0 where
  pub adds : Adds text p q
  pub room : q.at ≤ p.at + most
