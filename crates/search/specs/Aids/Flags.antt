-- Whether none of a range passes a test, as a loop finds it that looks at them all.
use Rattle.std.specs.Prelude.{ℕ, ◌-◌, Bool, true, false, ◌≡◌, Option}
use Rattle.search.specs.Search.{lowest, is_found}

-- on the way: as long as the answer is yes, the lowest from i on is the lowest of all; once it is no, one was met
pub record NoneTo (p : ℕ → Bool) (i end : ℕ) (whole : Option ℕ) (none : Bool) : Type 0 where
  pub yes : none ≡ true → lowest p i (end - i) ≡ whole
  pub no : none ≡ false → is_found whole ≡ true
