-- A name given as a pattern: find takes the slot that open would take.
use Rattle.std.specs.Prelude.{ℕ, ◌+◌, ◌-◌, ◌≤◌, ◌<◌, Bool, true, false, List, [], ◌∷◌, ◌≡◌, refl, length, Option, Some, None, is_some}
use native.Mathlib.Omega.{arith}
use Rattle.std.proofs.Common.{sym, ◌∙◌}
use Rattle.image.proofs.Laws.Store.{length_part}
use Rattle.search.proofs.Laws.Meaning.{lowest_same}
use Rattle.diskette.specs.Images.{OfKind}
use Rattle.diskette.specs.Places.{root_entries, slot_at}
use Rattle.diskette.specs.declared.Kind.{Kind}
use Rattle.fields.specs.Fields.{name_of}
use Rattle.names.specs.Reading.{name_given, name_bytes}
use Rattle.names.proofs.Laws.Proper.{proper}
use Rattle.patterns.specs.Patterns.{pattern_given}
use Rattle.patterns.proofs.Laws.Meaning.{name_is_pattern}
use Rattle.patterns.proofs.Laws.Matches.{name_matches}
use Rattle.directory.specs.Slots.{has_bit}
use Rattle.directory.specs.Search.{is_named, slot_named}
use Rattle.directory.proofs.Laws.Names.{named_is}
use Rattle.sound.specs.Sound.{Sound}
use Rattle.calls.specs.Outcome.{outcome, refusal, decided}
use Rattle.calls.specs.Numbers.{no_more_files}
use Rattle.calls.specs.Refusals.{file_found, no_file, file_slot}
use Rattle.calls.specs.Aids.Ready.{OnVolume}
use Rattle.calls.proofs.Laws.Ready.{on_kind_lem}
use Rattle.calls.proofs.Laws.Files.{slot_within}
use Rattle.matching.specs.Find.{is_match, match_from, match_found, find_outcome}
use Rattle.matching.specs.Aids.Search.{match_slot}
use Rattle.matching.proofs.Laws.Meaning.{match_is}
use Rattle.matching.proofs.Laws.Whole.{on_volume, find_by}

-- two tests that hold together
same_test : (a b : Bool) → (a ≡ true → b ≡ true) → (b ≡ true → a ≡ true) → a ≡ b
same_test true b f g = sym (f refl)
same_test false true f g = g refl
same_test false false f g = refl

-- what is there
there_is : (o : Option (List ℕ)) → is_some o ≡ true → o ≡ Some (name_bytes o)
there_is (Some n) e = refl
there_is None e = absurd (let z : ◌≡◌ {A = ℕ} 0 1 = cc in omega arith)

-- a good name is a good pattern
module _ (s : List ℕ) (fits : (is_some (name_given s)) ≡ true) where
  good_name : name_given s ≡ Some (name_bytes (name_given s))
  good_name = there_is (name_given s) fits

  good : (is_some (pattern_given s)) ≡ true
  good = rw (name_is_pattern s (name_bytes (name_given s)) good_name)

module _ (k : Kind) (img : List ℕ) (v : OnVolume img k) (s : List ℕ) (fits : (is_some (name_given s)) ≡ true)
    (mask : ℕ) (hidden : has_bit mask 0x02 ≡ true) (system : has_bit mask 0x04 ≡ true) where
  same_at : (t : ℕ) → t < root_entries k → is_match img (slot_at k t) (name_bytes (pattern_given s)) mask ≡ is_named img (slot_at k t) (name_bytes (name_given s))
  same_at t h =
      let a = slot_at k t in
      let inside : a + 32 ≤ length img = slot_within img k v t a h refl in
      let itself = name_matches s (name_bytes (name_given s)) (name_of img a) (good_name s fits) (length_part img a 11 (omega arith)) in
      let named = named_is img a inside (name_bytes (name_given s)) (proper s (name_bytes (name_given s)) (good_name s fits)).long in
      let matching = match_is img a (name_bytes (pattern_given s)) mask in
      same_test _ _
      (λ e. let m = matching.0 e in named.1 (m.plain, itself.0 m.name))
      (λ e. let n = named.0 e in matching.1 (record { plain = n.0; hidden = λ x. hidden; system = λ x. system; name = itself.1 n.1 }))

  pub found_as_open : match_found img s 0 mask ≡ file_found img s
  unfolding match_found match_from file_found slot_named
  found_as_open =
      let none : root_entries k - 0 ≡ root_entries k = omega arith in
      rw (on_kind_lem img k v, none)
      (lowest_same (match_slot img (slot_at k) (name_bytes (pattern_given s)) mask) (λ (t : ℕ). is_named img (slot_at k t) (name_bytes (name_given s))) 0 (root_entries k)
      (λ t g h. same_at t (omega arith)))

-- the slot of the file, and 18 where open answers 2
pub name_finds : (k : Kind) (img : List ℕ) → OfKind img k → Sound k img → (s : List ℕ) → (is_some (name_given s)) ≡ true
    → (mask : ℕ) → has_bit mask 0x02 ≡ true → has_bit mask 0x04 ≡ true
    → find_outcome img s 0 mask ≡ decided ((no_file img s, no_more_files) ∷ []) (outcome 0 (file_slot img s) img [] []) img [] []
unfolding decided refusal
name_finds k img o sound s fits mask hidden system = by (file_found img s) refl
  where
    v : OnVolume img k
    v = on_volume k img o sound

    by : (f : Option ℕ) → file_found img s ≡ f
        → find_outcome img s 0 mask ≡ decided ((no_file img s, no_more_files) ∷ []) (outcome 0 (file_slot img s) img [] []) img [] []
    by (Some i) e = find_by k img v s (good s fits) 0 mask (Some i) (found_as_open k img v s fits mask hidden system ∙ e) ∙ rw e
    by None e = find_by k img v s (good s fits) 0 mask None (found_as_open k img v s fits mask hidden system ∙ e) ∙ rw e
