-- What a place holds, and what a change of one place leaves, in the words of the fields.
use Rattle.std.specs.Prelude.{ℕ, ◌≤◌, Bool, List, ◌≢◌, ◌≡◌, length, get_or}
use Rattle.opened.specs.Records.{place_count, used_of, slot_of, access_of, pointer_of, written_of, place_at}

-- the five fields of place p
pub record PlaceHolds (t : List ℕ) (p : ℕ) (u : Bool) (a s x : ℕ) (w : Bool) : Type 0 where
  pub used : used_of t p ≡ u
  pub access : access_of t p ≡ a
  pub slot : slot_of t p ≡ s
  pub pointer : pointer_of t p ≡ x
  pub written : written_of t p ≡ w

-- place q of m holds what place q of t holds
abbrev pub SamePlace : List ℕ → List ℕ → ℕ → Type 0
SamePlace m t q = PlaceHolds m q (used_of t q) (access_of t q) (slot_of t q) (pointer_of t q) (written_of t q)

-- m is t but for what place p holds; past the records that are used every byte is the same
pub record OnlyAt (p : ℕ) (m t : List ℕ) : Type 0 where
  pub long : length m ≡ length t
  pub others : (q : ℕ) → q ≢ p → SamePlace m t q
  pub past : (j : ℕ) → place_at (place_count t) ≤ j → get_or m j 0 ≡ get_or t j 0
