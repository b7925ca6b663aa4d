-- Find: the tests of an entry, what it refuses and what it answers, by its rows. Only one outcome fits.
use Rattle.std.specs.Prelude.{ℕ, ◌-◌, ◌≤◌, ◌<◌, ◌≡◌, refl, Option, Some, List, Result, Ok, Err, ok_or}
use Rattle.std.proofs.Common.{arith, sym, ap, ◌∙◌}
use mathlib.Core.List.{List, [], ◌∷◌}
use Rattle.std.proofs.Math.Path.{subst}
use Rattle.search.proofs.Laws.Meaning.{LowestIs, lowest_is}
use Rattle.diskette.specs.Places.{root_entries, slot_at}
use Rattle.diskette.specs.declared.Kind.{Kind}
use Rattle.patterns.specs.Patterns.{pattern_given}
use Rattle.calls.specs.declared.refusal.Refusal.{Refusal}
use Rattle.calls.specs.declared.refusal.Refusal.TheVariants.{BreaksRules, NoMoreFiles}
use Rattle.calls.proofs.Laws.Exits.{lacked, had}
use Rattle.calls.specs.Outcome.{Row, Outcome, refusal, decided}
use Rattle.calls.specs.Numbers.{breaks_rules, no_more_files, refusal_number}
use Rattle.calls.specs.Aids.Ready.{OnVolume}
use Rattle.calls.proofs.Laws.Ready.{on_kind_lem, on_usable, known_passed, sound_passed, volume_past}
use Rattle.calls.proofs.Laws.Rows.{Stops, stops_at, stops_past, stopped}
use Rattle.calls.specs.Answers.{Answer}
use Rattle.calls.proofs.Laws.Told.{told_only}
use Rattle.matching.specs.Find.{match_from, bad_pattern, match_found, no_match, find_rows, find_outcome, Finds}
use Rattle.matching.specs.Aids.Search.{match_slot}

pub finds_only : {img s : List ℕ} {from mask : ℕ} {r r' : Answer} → Finds img s from mask r → Finds img s from mask r'
    → r ≡ r'
finds_only x y =
    let e = x.is ∙ sym y.is in
    told_only (ap (λ (o : Outcome). o.number) e) (ap (λ (o : Outcome). o.value) e)

-- ---- its rows: one stops it, or all are passed

pub find_refused : {img s : List ℕ} {from mask : ℕ} {a : Answer} {e : Refusal} → a ≡ Err e → Stops (find_rows img s from mask) (refusal_number e) → Finds img s from mask a
unfolding find_outcome
find_refused x q = record { is = rw x (sym (stopped _ _ q _ _ [] [])) }

-- g is what the caller's pattern reads as
module _ (s : List ℕ) (g : Option (List ℕ)) (given : g ≡ pattern_given s) (r : Result (List ℕ) Refusal) (asked : r ≡ ok_or g BreaksRules) where
  pub pattern_stops : (e : Refusal) → r ≡ Err e → (rows : List Row) → Stops ((bad_pattern s, breaks_rules) ∷ rows) (refusal_number e)
  pattern_stops e q rows =
      let l = lacked g BreaksRules r asked e q in
      rw (← l.1) (stops_at (bad_pattern s) breaks_rules rows (rw (← given, l.0)) refl)

  module _ (pattern : List ℕ) (fits : r ≡ Ok pattern) where
    good : pattern_given s ≡ Some pattern
    good = sym given ∙ had g BreaksRules r asked pattern fits

    pub pattern_past : (m n : ℕ) (rows : List Row) → Stops rows n → Stops ((bad_pattern s, m) ∷ rows) n
    pattern_past m n rows x = stops_past (bad_pattern s) m n rows (rw good) x

    -- f is what the search found
    module _ (img : List ℕ) (k : Kind) (v : OnVolume img k) (from mask : ℕ) (f : Option ℕ)
        (found : f ≡ match_from img (slot_at k) (root_entries k) pattern mask from) (o : Result ℕ Refusal) (wanted : o ≡ ok_or f NoMoreFiles) where
      found_is : match_found img s from mask ≡ f
      unfolding match_found
      found_is = rw (on_kind_lem img k v, good, found)

      pub match_stops : (e : Refusal) → o ≡ Err e → (rows : List Row) → Stops ((no_match img s from mask, no_more_files) ∷ rows) (refusal_number e)
      match_stops e q rows =
          let l = lacked f NoMoreFiles o wanted e q in
          rw (← l.1) (stops_at (no_match img s from mask) no_more_files rows (rw (found_is, l.0)) refl)

      module _ (slot : ℕ) (there : o ≡ Ok slot) where
        at : f ≡ Some slot
        at = had f NoMoreFiles o wanted slot there

        -- it is one of the root's, so it fits 32 bits
        pub match_fits : slot < 4294967296
        unfolding match_from
        match_fits =
            let test = match_slot img (slot_at k) pattern mask in
            let left = root_entries k - from in
            let x : LowestIs test from left (Some slot) = subst (LowestIs test from left) (sym found ∙ at) (lowest_is test from left) in
            let r : k.root ≤ 4096 = (on_usable img k v).few_slots in
            omega (arith, x.1)

        pub find_well : (a : Answer) → a ≡ Ok slot → Finds img s from mask a
        unfolding find_outcome decided refusal
        find_well a x = record { is = rw (x, known_passed img k v, sound_passed img k v, good, found_is, at) }

-- for `search`
pub ruleset rows = (volume_past, pattern_stops, pattern_past, match_stops)
