-- Which places are live and which unused; which files are open.
use Rattle.std.specs.Prelude.{ℕ, ◌≤◌, ◌<◌, Bool, true, not, ◌&&◌, List, ◌≡◌, eqb, leb, ltb, Option}
use Rattle.search.specs.Search.{lowest, is_found}
use Rattle.directory.specs.Slots.{PlainAt, standing_of, is_plain}
use Rattle.opened.specs.Records.{place_count, used_of, slot_of, access_of}

-- ---- A handle is its place. A place is live when used, its slot holds a plain file of this volume and access is 0 to 2.
-- The volume is an image with count slots; way takes a slot to the byte at which its entry starts.

pub record LivePlace (t : List ℕ) (h : ℕ) (l : List ℕ) (way : ℕ → ℕ) (count : ℕ) : Type 0 where
  pub counted : h < place_count t
  pub used : used_of t h ≡ true
  pub access : access_of t h ≤ 2
  pub slot : slot_of t h < count
  pub plain : PlainAt l (way (slot_of t h))

unfoldable pub is_live : List ℕ → ℕ → List ℕ → (ℕ → ℕ) → ℕ → Bool
is_live t h l way count =
    let s = slot_of t h in
    ltb h (place_count t) && (used_of t h && (leb (access_of t h) 2 && (ltb s count && is_plain (standing_of l (way s)))))

-- ---- A file is open when a used place names its slot.

pub record NamesAt (t : List ℕ) (slot p : ℕ) : Type 0 where
  pub used : used_of t p ≡ true
  pub names : slot_of t p ≡ slot

unfoldable pub is_open : List ℕ → ℕ → Bool
is_open t slot = is_found (lowest (λ p. used_of t p && eqb (slot_of t p) slot) 0 (place_count t))

-- ---- the lowest unused place

unfoldable pub lowest_unused : List ℕ → Option ℕ
lowest_unused t = lowest (λ p. not (used_of t p)) 0 (place_count t)
