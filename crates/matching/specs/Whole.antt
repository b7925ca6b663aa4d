-- "A whole search from slot 0 lists each match once in slot order."
use Rattle.std.specs.Prelude.{ℕ, zero, suc, ◌+◌, ◌≤◌, ◌<◌, cond, List, [], ◌∷◌, ◌↔◌, eqb, length, get_or}
use Rattle.chains.specs.Lists.{◌∈◌}
use Rattle.diskette.specs.Images.{OfKind}
use Rattle.diskette.specs.Places.{root_entries, slot_at}
use Rattle.diskette.specs.declared.Kind.{Kind}
use Rattle.patterns.specs.Patterns.{PatternMeans}
use Rattle.sound.specs.Sound.{Sound}
use Rattle.matching.specs.Find.{MatchAt, find_outcome}

-- the answers of find, called from a slot and then again and again from the slot after its answer, until it refuses; of n calls at most
unfoldable pub searched : List ℕ → List ℕ → ℕ → ℕ → ℕ → List ℕ
searched img s mask zero from = []
searched img s mask (suc n) from =
    let o = find_outcome img s from mask in
    cond (eqb o.number 0) (o.value ∷ searched img s mask n (o.value + 1)) []

-- each slot of the root that matches, and no other, once and in slot order
pub record ListsMatches (k : Kind) (img pattern : List ℕ) (mask : ℕ) (slots : List ℕ) : Type 0 where
  pub each : (s : ℕ) → (s ∈ slots) ↔ ((s < root_entries k) × MatchAt img (slot_at k s) pattern mask)
  pub rising : (i j : ℕ) → i < j → j < length slots → get_or slots i 0 < get_or slots j 0

-- on a sound volume, by a good pattern; as many calls as the root has slots are enough
abbrev pub WholeSearch : Type 0
WholeSearch = (k : Kind) (img : List ℕ) → OfKind img k → Sound k img → (s pattern : List ℕ) → PatternMeans s pattern
    → (mask n : ℕ) → root_entries k ≤ n → ListsMatches k img pattern mask (searched img s mask n 0)
