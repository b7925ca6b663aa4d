-- What a match is in words, and that find answers the lowest.
use Rattle.std.specs.Prelude.{ℕ, ◌-◌, ◌≤◌, ◌<◌, Bool, true, false, not, ◌||◌, List, [], ◌∷◌, ◌↔◌, ◌≡◌, refl, ltb, Option, Some, None}
use Rattle.std.proofs.Common.{arith, sym, ap, subst}
use Rattle.names.specs.Reading.{name_bytes}
use Rattle.search.specs.Search.{is_found, Lowest, Nowhere, Answers}
use Rattle.search.proofs.Laws.Answers.{lowest_answers}
use Rattle.search.proofs.Laws.Turns.{lowest_done}
use Rattle.diskette.specs.Places.{root_entries, slot_at}
use Rattle.names.proofs.Laws.Tests.{and_left, and_right}
use Rattle.fields.specs.Fields.{name_of, attr_of}
use Rattle.patterns.specs.Patterns.{pattern_given, matches}
use Rattle.directory.specs.Slots.{has_bit, standing_of, is_plain}
use Rattle.directory.proofs.Laws.Slots.{plain_is}
use Rattle.calls.specs.Outcome.{Outcome, outcome, refusal, decided}
use Rattle.calls.specs.Numbers.{of_no_kind, unsound, breaks_rules, no_more_files}
use Rattle.calls.specs.Refusals.{the_kind, not_of_kind, not_sound, place_found}
use Rattle.calls.specs.Answers.{Answer, number_told, value_told}
use Rattle.matching.specs.Find.{bit_shows, shown_by, is_match, MatchAt, match_from, bad_pattern, match_found, find_outcome, Finds}
use Rattle.matching.specs.Aids.Search.{match_slot}

-- ---- an entry that matches

bit_back : (x y : Bool) → (x ≡ true → y ≡ true) → (not x || y) ≡ true
bit_back true y f = f refl
bit_back false y f = refl

bit_there : (x y : Bool) → (not x || y) ≡ true → x ≡ true → y ≡ true
bit_there true y e h = e
bit_there false y e h = absurd (let z : ◌≡◌ {A = ℕ} 0 1 = cc in omega arith)

pub match_is : (l : List ℕ) (a : ℕ) (pattern : List ℕ) (mask : ℕ) → (is_match l a pattern mask ≡ true) ↔ MatchAt l a pattern mask
unfolding is_match shown_by
match_is l a pattern mask = (there, back)
  where
    there : is_match l a pattern mask ≡ true → MatchAt l a pattern mask
    there e =
        let rest = and_right (is_plain (standing_of l a)) _ e in
        let bits = and_left (shown_by mask (attr_of l a)) (matches pattern (name_of l a)) rest in
        record {
          plain = (plain_is l a).0 (and_left (is_plain (standing_of l a)) _ e);
          hidden = bit_there (has_bit (attr_of l a) 0x02) (has_bit mask 0x02) (and_left (bit_shows mask (attr_of l a) 0x02) (bit_shows mask (attr_of l a) 0x04) bits);
          system = bit_there (has_bit (attr_of l a) 0x04) (has_bit mask 0x04) (and_right (bit_shows mask (attr_of l a) 0x02) (bit_shows mask (attr_of l a) 0x04) bits);
          name = and_right (shown_by mask (attr_of l a)) (matches pattern (name_of l a)) rest;
        }

    back : MatchAt l a pattern mask → is_match l a pattern mask ≡ true
    back m = rw (
      (plain_is l a).1 m.plain,
      bit_back (has_bit (attr_of l a) 0x02) (has_bit mask 0x02) m.hidden,
      bit_back (has_bit (attr_of l a) 0x04) (has_bit mask 0x04) m.system,
      m.name,
    )

-- ---- the lowest at or after the slot given

pub match_answers : (l : List ℕ) (way : ℕ → ℕ) (count : ℕ) (pattern : List ℕ) (mask from : ℕ)
    → Answers (λ s. (from ≤ s) × (s < count) × MatchAt l (way s) pattern mask) (match_from l way count pattern mask from)
unfolding match_from
match_answers l way count pattern mask from =
    lowest_answers (match_slot l way pattern mask) (λ (s : ℕ). (from ≤ s) × (s < count) × MatchAt l (way s) pattern mask) from (count - from)
    (λ s x. (x.0, omega (arith, x.0, x.1)))
    (λ s h k. (λ t. (h, omega arith, (match_is l (way s) pattern mask).0 t), λ x. (match_is l (way s) pattern mask).1 x.2))

-- a slot out of range has none at or after it
pub out_of_range_lem : (l : List ℕ) (way : ℕ → ℕ) (count : ℕ) (pattern : List ℕ) (mask from : ℕ) → count ≤ from
    → match_from l way count pattern mask from ≡ None
unfolding match_from
out_of_range_lem l way count pattern mask from h = sym (lowest_done (match_slot l way pattern mask) from count _ refl h)

-- ---- the call: what its number says of what was found

found_by : (a b c : Bool) (f : Option ℕ) (l : List ℕ) (n v : ℕ)
    → outcome n v l [] []
    ≡ decided ((a, of_no_kind) ∷ (b, unsound) ∷ (c, breaks_rules) ∷ (not (is_found f), no_more_files) ∷ []) (outcome 0 (place_found f) l [] []) l [] []
    → (n ≡ 0 → f ≡ Some v) × (n ≡ no_more_files → f ≡ None)
unfolding decided refusal
found_by true b c f l n v e = let q : n ≡ 40 = ap (λ (o : Outcome). o.number) e in (λ z. absurd (omega arith), λ z. absurd (omega arith))
found_by false true c f l n v e = let q : n ≡ 41 = ap (λ (o : Outcome). o.number) e in (λ z. absurd (omega arith), λ z. absurd (omega arith))
found_by false false true f l n v e = let q : n ≡ 42 = ap (λ (o : Outcome). o.number) e in (λ z. absurd (omega arith), λ z. absurd (omega arith))
found_by false false false (Some i) l n v e =
    let q : n ≡ 0 = ap (λ (o : Outcome). o.number) e in
    (λ z. ap Some (sym (ap (λ (o : Outcome). o.value) e)), λ z. absurd (omega arith))
found_by false false false None l n v e = let q : n ≡ 18 = ap (λ (o : Outcome). o.number) e in (λ z. absurd (omega arith), λ z. refl)

module _ (img s : List ℕ) (from mask : ℕ) (r : Answer) (x : Finds img s from mask r) where
  found : ((number_told r) ≡ 0 → match_found img s from mask ≡ Some (value_told r)) × ((number_told r) ≡ no_more_files → match_found img s from mask ≡ None)
  unfolding find_outcome
  found = found_by (not_of_kind img) (not_sound img) (bad_pattern s) (match_found img s from mask) img (number_told r) (value_told r) x.is

  -- slot t of the root, at or after the one given, matches
  abbrev After : ℕ → Type 0
  After t = (from ≤ t) × (t < root_entries (the_kind img)) × MatchAt img (slot_at (the_kind img) t) (name_bytes (pattern_given s)) mask

  answers : Answers After (match_found img s from mask)
  unfolding match_found
  answers = match_answers img (slot_at (the_kind img)) (root_entries (the_kind img)) (name_bytes (pattern_given s)) mask from

  pub find_answers : (number_told r) ≡ 0 → Lowest ltb After (value_told r)
  find_answers z = subst (Answers After) (found.0 z) answers

  pub find_ends : (number_told r) ≡ no_more_files → Nowhere After
  find_ends z = subst (Answers After) (found.1 z) answers
