-- A whole search: find again and again answers all that match, lowest first.
use Prim.Native.Nat.{ℕ, zero, suc, ◌+◌, ◌-◌, ◌≤◌}
use native.Mathlib.Omega.{arith}
use Rattle.std.specs.Prelude.{Bool, true, ◌≡◌, ℕ, Option, Some, None, is_some}
use mathlib.Core.List.{List, [], ◌∷◌}
use Rattle.std.proofs.Math.Path.{refl, sym, ap, subst}
use Rattle.std.proofs.Common.{◌∙◌}
use Rattle.names.specs.Reading.{name_bytes}
use Rattle.chains.proofs.Laws.Tests.{true_says}
use Rattle.search.specs.Search.{lowest}
use Rattle.search.proofs.Laws.Meaning.{LowestIs, lowest_is}
use Rattle.diskette.specs.Images.{OfKind}
use Rattle.diskette.specs.Places.{root_entries, slot_at}
use Rattle.diskette.proofs.Laws.Images.{image_of_kind}
use Rattle.diskette.specs.declared.Kind.{Kind}
use Rattle.patterns.specs.Patterns.{pattern_given}
use Rattle.patterns.proofs.Laws.Meaning.{pattern_accepted}
use Rattle.sound.specs.Sound.{Sound}
use Rattle.sound.proofs.Laws.IsSound.{known_says}
use Rattle.calls.specs.Outcome.{Outcome, outcome, refusal, decided}
use Rattle.calls.specs.Numbers.{no_more_files}
use Rattle.calls.specs.Aids.Ready.{OnVolume}
use Rattle.calls.proofs.Laws.Ready.{on_kind_lem, known_passed, sound_passed}
use Rattle.matching.specs.Find.{match_from, match_found, find_outcome}
use Rattle.matching.specs.Whole.{searched, ListsMatches, WholeSearch}
use Rattle.matching.specs.Aids.Search.{match_slot, picked}
use Rattle.matching.proofs.Laws.Meaning.{match_is}
use Rattle.matching.proofs.Laws.Picked.{picked_headed, picked_exactly, picked_rising}

-- what find leaves, by what it found
abbrev pub outcome_by : List ℕ → Option ℕ → Outcome
outcome_by img (Some i) = outcome 0 i img [] []
outcome_by img None = outcome no_more_files 0 img [] []

-- a volume of a kind that is sound
pub on_volume : (k : Kind) (img : List ℕ) → OfKind img k → Sound k img → OnVolume img k
on_volume k img o s = let known = (image_of_kind img k).1 o in record { known = known; sound = true_says (known_says img k known) s }

module _ (k : Kind) (img : List ℕ) (v : OnVolume img k) (s : List ℕ) (fits : (is_some (pattern_given s)) ≡ true) where
  pub find_by : (from mask : ℕ) (f : Option ℕ) → match_found img s from mask ≡ f → find_outcome img s from mask ≡ outcome_by img f
  unfolding find_outcome decided refusal
  find_by from mask (Some i) e = rw (known_passed img k v, sound_passed img k v, fits, e)
  find_by from mask None e = rw (known_passed img k v, sound_passed img k v, fits, e)

  module _ (mask : ℕ) where
    abbrev passes : ℕ → Bool
    passes = match_slot img (slot_at k) (name_bytes (pattern_given s)) mask

    -- the next call's answers come behind this one's
    abbrev next : ℕ → Option ℕ → List ℕ
    next n (Some i) = i ∷ searched img s mask n (i + 1)
    next n None = []

    turn : (n from : ℕ) (f : Option ℕ) → match_found img s from mask ≡ f → searched img s mask (suc n) from ≡ next n f
    unfolding searched
    turn n from (Some i) e = rw (find_by from mask (Some i) e)
    turn n from None e = rw (find_by from mask None e)

    found_as : (from : ℕ) → match_found img s from mask ≡ lowest passes from (root_entries k - from)
    unfolding match_found match_from
    found_as from = rw (on_kind_lem img k v)

    -- the list of all slots that match, lowest first
    pub searched_picked : (n from : ℕ) → root_entries k ≤ from + n → searched img s mask n from ≡ picked passes from (root_entries k - from)
    unfolding searched picked
    searched_picked zero from h = let e : root_entries k - from ≡ 0 = omega arith in rw e
    searched_picked (suc n) from h = by (lowest passes from (root_entries k - from)) refl (λ i g. searched_picked n (i + 1) (omega arith))
      where
        by : (f : Option ℕ) → lowest passes from (root_entries k - from) ≡ f
            → ((i : ℕ) → from ≤ i → searched img s mask n (i + 1) ≡ picked passes (i + 1) (root_entries k - (i + 1)))
            → searched img s mask (suc n) from ≡ picked passes from (root_entries k - from)
        by (Some i) e rest =
            let left = root_entries k - from in
            let x : LowestIs passes from left (Some i) = subst (LowestIs passes from left) e (lowest_is passes from left) in
            let end : from + left ≡ root_entries k = omega (arith, x.0, x.1) in
            turn n from (Some i) (found_as from ∙ e) ∙ ap (λ (r : List ℕ). i ∷ r) (rest i x.0)
            ∙ sym (picked_headed passes from left ∙ rw (e, end))
        by None e rest =
            turn n from None (found_as from ∙ e) ∙ sym (picked_headed passes from (root_entries k - from) ∙ rw e)

    lists : (n : ℕ) → root_entries k ≤ n → ListsMatches k img (name_bytes (pattern_given s)) mask (searched img s mask n 0)
    lists n h =
        let none : root_entries k - 0 ≡ root_entries k = omega arith in
        let e : searched img s mask n 0 ≡ picked passes 0 (root_entries k) = searched_picked n 0 (omega arith) ∙ ap (picked passes 0) none in
        rw e (record {
          each = λ t. (
            λ m.
                let x = (picked_exactly passes 0 (root_entries k) t).0 m in
                (omega (arith, x.1), (match_is img (slot_at k t) (name_bytes (pattern_given s)) mask).0 x.2),
            λ x.
                (picked_exactly passes 0 (root_entries k) t).1
                (omega arith, omega (arith, x.0), (match_is img (slot_at k t) (name_bytes (pattern_given s)) mask).1 x.1),
          );
          rising = picked_rising passes 0 (root_entries k);
        })

pub whole_search : WholeSearch
whole_search k img o sound s pattern m mask n h =
    let good = (pattern_accepted s pattern).1 m in
    subst (λ (p : List ℕ). ListsMatches k img p mask (searched img s mask n 0)) (ap name_bytes good)
    (lists k img (on_volume k img o sound) s (ap is_some good) mask n h)
