-- Places that are taken for the same files.
use Rattle.std.specs.Prelude.{ℕ, ◌<◌, List, ◌≡◌}
use Rattle.opened.specs.Records.{used_of, access_of, slot_of, place_count}

-- place q of m is taken, or not, for the same file and the same access as place q of t
pub record SameUse (m t : List ℕ) (q : ℕ) : Type 0 where
  pub used : used_of m q ≡ used_of t q
  pub access : access_of m q ≡ access_of t q
  pub slot : slot_of m q ≡ slot_of t q

-- so in all places: pointers and written marks alone may differ
pub record SameUses (m t : List ℕ) : Type 0 where
  pub count : place_count m ≡ place_count t
  pub each : (q : ℕ) → q < place_count t → SameUse m t q
