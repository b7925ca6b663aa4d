-- What rows that were passed say of the name, the file, the slot or the place that a call goes on with.
use Rattle.std.specs.Prelude.{ℕ, ◌<◌, true, false, not, List, ◌≡◌, ltb, Option, Some, None, is_some, ok_or}
use Rattle.std.proofs.Math.Path.{refl, subst}
use Rattle.std.proofs.Common.{sym, ap, ◌∙◌}
use Rattle.std.proofs.lemmas.Bool.{not-false}
use Rattle.chains.proofs.Laws.Tests.{clash}
use Rattle.diskette.specs.Places.{root_entries, slot_at}
use Rattle.diskette.specs.declared.Kind.{Kind}
use Rattle.search.specs.Search.{is_found, Lowest, Answers}
use Rattle.directory.specs.Search.{lowest_vacant, slot_named}
use Rattle.directory.specs.Slots.{VacantAt}
use Rattle.directory.proofs.Laws.Search.{vacant_slot_answers}
use Rattle.names.specs.Reading.{name_given, name_bytes}
use Rattle.opened.specs.Places.{LivePlace, lowest_unused}
use Rattle.opened.specs.Records.{place_count, slot_of}
use Rattle.opened.proofs.Laws.Places.{live_is}
use Rattle.calls.specs.Aids.Ready.{OnVolume}
use Rattle.calls.specs.Refusals.{place_found, the_kind, bad_name, file_found, no_file, file_slot, not_live, no_place, free_place, slot_for_new}
use Rattle.calls.specs.declared.refusal.Refusal.TheVariants.{TooManyOpen}
use Rattle.calls.proofs.Laws.Files.{named_fits, unused_below}
use Rattle.calls.proofs.Laws.Ready.{on_kind_lem}
use Rattle.sound.specs.Files.{IsFile}
use Rattle.holding.proofs.Laws.Found.{named_file}

pub good_name : (s : List ℕ) → bad_name s ≡ false → is_some (name_given s) ≡ true
good_name s e = not-false (is_some (name_given s)) e

pub found_at : (f : Option ℕ) → not (is_found f) ≡ false → f ≡ Some (place_found f)
found_at (Some i) e = refl
found_at None e = absurd (clash refl e)

found_nothing : (f : Option ℕ) → not (is_found f) ≡ true → f ≡ None
found_nothing (Some i) e = absurd (clash e refl)
found_nothing None e = refl

-- the place that open and create take
pub place_counts : (t : List ℕ) → no_place t ≡ false → free_place t < place_count t
place_counts t e = unused_below t (lowest_unused t) refl (ok_or (lowest_unused t) TooManyOpen) refl (free_place t) (ap (λ f. ok_or f TooManyOpen) (found_at (lowest_unused t) e))

module _ (k : Kind) (l : List ℕ) (v : OnVolume l k) (s : List ℕ) where
  by_name : file_found l s ≡ slot_named l (slot_at k) (root_entries k) (name_bytes (name_given s))
  unfolding file_found
  by_name = rw (on_kind_lem l k v)

  -- the name of a file
  pub file_found_lem : no_file l s ≡ false → slot_named l (slot_at k) (root_entries k) (name_bytes (name_given s)) ≡ Some (file_slot l s)
  file_found_lem e = sym by_name ∙ found_at (file_found l s) e

  pub file_there : no_file l s ≡ false → IsFile k l (file_slot l s)
  file_there e = named_file l k (name_bytes (name_given s)) (slot_named l (slot_at k) (root_entries k) (name_bytes (name_given s))) refl (file_slot l s) (file_found_lem e)

  -- the name of none
  pub no_file_found : no_file l s ≡ true → slot_named l (slot_at k) (root_entries k) (name_bytes (name_given s)) ≡ None
  no_file_found e = sym by_name ∙ found_nothing (file_found l s) e

module _ (k : Kind) (l : List ℕ) (v : OnVolume l k) where
  -- the slot of a file that was found by its name
  pub named_small : (name : List ℕ) → no_file l name ≡ false → file_slot l name < 4294967296
  named_small name e =
      named_fits l k (name_bytes (name_given name)) (file_found l name) (by_name k l v name) v (file_slot l name) (found_at _ e)

  pub live_at : (t : List ℕ) (h : ℕ) → not_live l t h ≡ false → LivePlace t h l (slot_at (the_kind l)) (root_entries (the_kind l))
  unfolding not_live
  live_at t h e = (live_is t h l _ _).0 (not-false _ e)

  -- the file that a live handle reaches
  pub live_there : (t : List ℕ) (h : ℕ) → not_live l t h ≡ false → IsFile k l (slot_of t h)
  live_there t h e = let x = live_at t h e in record { below = rw (← on_kind_lem l k v) x.slot; plain = rw (← on_kind_lem l k v) x.plain }

  -- the slot that a new file takes: below the root's count, and open
  pub new_slot_lem : not (is_found (slot_for_new l)) ≡ false → Lowest ltb (λ i. (i < root_entries k) × VacantAt l (slot_at k i)) (place_found (slot_for_new l))
  unfolding slot_for_new
  new_slot_lem e =
      let same : slot_for_new l ≡ lowest_vacant l (slot_at k) (root_entries k) = rw (on_kind_lem l k v) refl in
      subst (Answers (λ i. (i < root_entries k) × VacantAt l (slot_at k i))) (sym same ∙ found_at (slot_for_new l) e)
      (vacant_slot_answers l (slot_at k) (root_entries k))
