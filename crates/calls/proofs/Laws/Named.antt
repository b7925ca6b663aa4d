-- Rows 40, 41, 42 and 2, which stand in front of every call by name, in the form of the code's needs: each stops the call by its
-- number, or is passed. The rows behind it are any. g is what the caller's name s reads as, f what the search for it found.
use Rattle.std.specs.Prelude.{ℕ, true, false, not, List, ◌∷◌, ◌<◌, ◌≡◌, refl, Option, Some, Result, Ok, Err, ok_or}
use Rattle.std.proofs.Common.{◌∙◌}
use Rattle.diskette.specs.Places.{slot_at, root_entries}
use Rattle.diskette.specs.declared.Kind.{Kind}
use Rattle.directory.specs.Search.{slot_named}
use Rattle.names.specs.Reading.{name_given}
use Rattle.calls.specs.Outcome.{Row}
use Rattle.calls.specs.Numbers.{breaks_rules, file_not_found, refusal_number}
use Rattle.calls.specs.declared.refusal.Refusal.{Refusal}
use Rattle.calls.specs.declared.refusal.Refusal.TheVariants.{FileNotFound, BreaksRules}
use Rattle.calls.specs.Refusals.{not_of_kind, not_sound, bad_name, file_found, no_file, file_slot}
use Rattle.calls.specs.Aids.Ready.{OnVolume}
use Rattle.calls.proofs.Laws.Ready.{known_passed, sound_passed, volume_past}
use Rattle.calls.proofs.Laws.Rows.{Stops, stops_at, stops_past}
use Rattle.calls.proofs.Laws.Exits.{lacked, had}
use Rattle.calls.proofs.Laws.Files.{found_is, named_below, named_fits}

-- all four are passed: the name means the plain file in the slot
pub record FileNamed (img s : List ℕ) (slot : ℕ) : Type 0 where
  pub known : not_of_kind img ≡ false
  pub sound : not_sound img ≡ false
  pub good : bad_name s ≡ false
  pub found : file_found img s ≡ Some slot

module _ (s : List ℕ) (g : Option (List ℕ)) (given : g ≡ name_given s) (r : Result (List ℕ) Refusal) (asked : r ≡ ok_or g BreaksRules) where
  -- 42
  pub name_stops : (e : Refusal) → r ≡ Err e → (rows : List Row) → Stops ((bad_name s, breaks_rules) ∷ rows) (refusal_number e)
  name_stops e q rows =
      let l = lacked g BreaksRules r asked e q in
      rw (← l.1) (stops_at (bad_name s) breaks_rules rows (rw (← given, l.0)) refl)

  module _ (name : List ℕ) (fits : r ≡ Ok name) where
    pub name_past : (m n : ℕ) (rows : List Row) → Stops rows n → Stops ((bad_name s, m) ∷ rows) n
    name_past m n rows x = stops_past (bad_name s) m n rows (rw (← given, had g BreaksRules r asked name fits)) x

    module _ (img : List ℕ) (k : Kind) (v : OnVolume img k) (f : Option ℕ) (found : f ≡ slot_named img (slot_at k) (root_entries k) name) where
      pub found_lem : file_found img s ≡ f
      found_lem = found_is img k v s g given name (had g BreaksRules r asked name fits) f found

      module _ (o : Result ℕ Refusal) (wanted : o ≡ ok_or f FileNotFound) where
        -- 2
        pub file_stops : (e : Refusal) → o ≡ Err e → (rows : List Row) → Stops ((no_file img s, file_not_found) ∷ rows) (refusal_number e)
        file_stops e q rows =
            let l = lacked f FileNotFound o wanted e q in
            rw (← l.1) (stops_at (no_file img s) file_not_found rows (rw (found_lem, l.0)) refl)

        module _ (slot : ℕ) (there : o ≡ Ok slot) where
          at : f ≡ Some slot
          at = had f FileNotFound o wanted slot there

          pub file_past : (m n : ℕ) (rows : List Row) → Stops rows n → Stops ((no_file img s, m) ∷ rows) n
          file_past m n rows x = stops_past (no_file img s) m n rows (rw (found_lem, at)) x

          pub file_slot_lem : file_slot img s ≡ slot
          file_slot_lem = rw (found_lem, at)

          pub file_named : FileNamed img s slot
          file_named = record {
            known = known_passed img k v;
            sound = sound_passed img k v;
            good = rw (← given, had g BreaksRules r asked name fits);
            found = found_lem ∙ at;
          }

          pub found_below : slot < root_entries k
          found_below = named_below img k name f found slot at

          pub found_fits : slot < 4294967296
          found_fits = named_fits img k name f found v slot at

-- for `search`
pub ruleset named = (volume_past, name_stops, name_past, file_stops, file_past)
