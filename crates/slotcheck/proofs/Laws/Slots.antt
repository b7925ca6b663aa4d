-- What the search of the slots for finding 4 needs, turn by turn and test by test.
use Rattle.std.specs.Prelude.{ℕ, suc, ◌+◌, ◌-◌, ◌<◌, Bool, true, false, ◌&&◌, ◌||◌, not, List, ◌≡◌, refl, Option, Some, None}
use Rattle.std.proofs.Common.{arith, ◌∙◌}
use Rattle.chains.specs.Aids.Tests.{Says, aye, nay}
use Rattle.fields.specs.Fields.{name_of}
use Rattle.directory.specs.Slots.{standing_of, is_plain}
use Rattle.directory.specs.Search.{slot_named}
use Rattle.search.specs.Search.{lowest, Answers, is_found}
use Rattle.search.proofs.Laws.Turns.{lowest_hit, lowest_miss}
use Rattle.slotcheck.specs.Aids.Slots.{any_below, never_used_slot, label_slot, strange_slot, name_twice_slot, bad_slot_by, bad_slot_at}

-- ---- slot s of a directory

module _ (l : List ℕ) (way : ℕ → ℕ) (s : ℕ) where
  module _ (plain : Bool) (is : plain ≡ is_plain (standing_of l (way s))) where
    pub twice_other : plain ≡ false → false ≡ name_twice_slot l way s
    unfolding name_twice_slot
    twice_other f = rw (← is, f)

    pub twice_plain : plain ≡ true → (name : List ℕ) → name ≡ name_of l (way s) → (f : Option ℕ) → f ≡ slot_named l way s name
        → (r : Bool) → r ≡ is_found f → r ≡ name_twice_slot l way s
    unfolding name_twice_slot
    twice_plain t name e f q r p = rw (← is, t, ← e, ← q) p

  -- b says whether the slot is bad whatever its name is
  module _ (never label b : Bool) (is : b ≡ ((not (never_used_slot l way s) && never) || (strange_slot l way s || (label_slot l way s && label)))) where
    with_name : (b || name_twice_slot l way s) ≡ bad_slot_by l way s never label
    unfolding bad_slot_by
    with_name = rw is (by (not (never_used_slot l way s) && never) (strange_slot l way s) _ _)
      where
        by : (x y z t : Bool) → ((x || (y || z)) || t) ≡ (x || (y || (z || t)))
        by true y z t = refl
        by false true z t = refl
        by false false z t = refl

    pub bad_entry : b ≡ true → b ≡ bad_slot_by l way s never label
    bad_entry t = (rw t) ∙ with_name

    pub bad_name_lem : b ≡ false → (r : Bool) → r ≡ name_twice_slot l way s → r ≡ bad_slot_by l way s never label
    bad_name_lem f r p = p ∙ (rw f at with_name)

-- ---- the search: it stands at s, and count - s slots are left

-- what was met below s, and at s
pub any_more : (p : ℕ → Bool) (s : ℕ) (seen here r : Bool) → r ≡ (seen || here) → seen ≡ any_below p s → here ≡ p s → r ≡ any_below p (s + 1)
unfolding any_below
any_more p s seen here r q e g = let z : s + 1 ≡ suc s = omega arith in rw (z, any_below, ← e, ← g) q

module _ (l : List ℕ) (way : ℕ → ℕ) (s : ℕ) (never label r : Bool) (is : r ≡ bad_slot_by l way s never label)
    (nevers : never ≡ any_below (never_used_slot l way) s) (labels : label ≡ any_below (label_slot l way) s) where
  here : r ≡ bad_slot_at l way s
  unfolding bad_slot_at
  here = is ∙ rw (nevers, labels)

  module _ (count : ℕ) (whole : Option ℕ) (left : s < count) (inv : lowest (bad_slot_at l way) s (count - s) ≡ whole) where
    pub bad_found : r ≡ true → Some s ≡ whole
    bad_found = lowest_hit (bad_slot_at l way) s count whole inv left r here

    pub bad_not_here : r ≡ false → lowest (bad_slot_at l way) (s + 1) (count - (s + 1)) ≡ whole
    bad_not_here = lowest_miss (bad_slot_at l way) s count whole inv left r here

-- ---- a search

-- it found something exactly where there is something
pub says_found : (B : ℕ → Type 0) (f : Option ℕ) → Answers B f → Says (is_found f) ((t : ℕ) × B t)
says_found B (Some t) a = aye refl (t, a.0)
says_found B None a = nay refl (λ x. a x.0 x.1)
