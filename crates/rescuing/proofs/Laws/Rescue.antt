-- Rescue: what it refuses and what it puts, by its rows. Only one outcome fits.
use Rattle.std.specs.Prelude.{ℕ, ◌+◌, ◌≤◌, ◌<◌, Bool, true, false, not, List, [], ◌∷◌, ◌≡◌, refl, length, take, Option, Some, Result, Ok, Err, ok_or}
use Rattle.std.proofs.Common.{arith, sym, ◌∙◌}
use Rattle.std.proofs.Math.Path.{ap}
use Rattle.std.proofs.lemmas.Bool.{not-false}
use Rattle.image.specs.Store.{stored}
use Rattle.diskette.specs.Images.{kind_of_image}
use Rattle.diskette.specs.Places.{root_at, root_entries, slot_at, slot_from}
use Rattle.diskette.specs.declared.Kind.{Kind}
use Rattle.fields.specs.Fields.{size_of}
use Rattle.directory.specs.Search.{slot_named}
use Rattle.calls.specs.declared.refusal.Refusal.{Refusal}
use Rattle.calls.specs.declared.refusal.Refusal.TheVariants.{BreaksRules, FileNotFound, OfNoKind}
use Rattle.calls.specs.Numbers.{of_no_kind, file_not_found, access_denied, refusal_number}
use Rattle.calls.specs.Outcome.{Row, Outcome, refusal, decided}
use Rattle.calls.specs.Refusals.{is_unknown, kind_found, the_kind, not_of_kind, file_found, no_file, file_slot}
use Rattle.calls.specs.Answers.{Answer}
use Rattle.calls.proofs.Laws.Told.{told_only}
use Rattle.calls.proofs.Laws.Exits.{had, lacked}
use Rattle.calls.proofs.Laws.Named.{name_stops, name_past}
use Rattle.calls.proofs.Laws.Rows.{Stops, stops_at, stops_past, stopped}
use Rattle.holding.specs.Holding.{file_bytes}
use Rattle.sound.specs.Files.{IsFile}
use Rattle.holding.proofs.Laws.Found.{named_file}
use Rattle.rescuing.specs.Rescue.{good_chain, rescue_count, rescue_rows, rescue_outcome, Rescues}
use Rattle.holding.proofs.Laws.Kinds.{slot_inside}
use Rattle.names.specs.Reading.{name_given}

pub rescues_only : {img s out : List ℕ} {r r' : Answer} {b b' : List ℕ} → Rescues img s out r b → Rescues img s out r' b'
    → (r ≡ r') × (b ≡ b')
rescues_only x y =
    let e = x.is ∙ sym y.is in
    (told_only (ap (λ (o : Outcome). o.number) e) (ap (λ (o : Outcome). o.value) e), ap (λ (o : Outcome). o.buffer) e)

-- ---- one row stops it, or all are passed

pub rescue_refused : {img s out : List ℕ} {a : Answer} {e : Refusal} → a ≡ Err e → Stops (rescue_rows img s) (refusal_number e) → Rescues img s out a out
unfolding rescue_outcome
rescue_refused {out = out} x q = record { is = rw x (sym (stopped _ _ q _ _ [] out)) }

-- the image is of no kind: w is the kind that was found
module _ (img : List ℕ) (w : Option Kind) (e : w ≡ kind_of_image img) (o : Result Kind Refusal) (wanted : o ≡ ok_or w OfNoKind) where
  pub kind_stops : (d : Refusal) → o ≡ Err d → (rows : List Row) → Stops ((not_of_kind img, of_no_kind) ∷ rows) (refusal_number d)
  kind_stops d q rows =
      let l = lacked w OfNoKind o wanted d q in
      rw (← l.1) (stops_at (not_of_kind img) of_no_kind rows (ap is_unknown (sym e ∙ l.0)) refl)

-- or of the kind k
module _ (img : List ℕ) (k : Kind) (e : kind_of_image img ≡ Some k) where
  passed : not_of_kind img ≡ false
  passed = ap is_unknown e

  is_kind : the_kind img ≡ k
  is_kind = ap kind_found e

  pub kind_past : (m n : ℕ) (rows : List Row) → Stops rows n → Stops ((not_of_kind img, m) ∷ rows) n
  kind_past m n rows x = stops_past (not_of_kind img) m n rows passed x

  -- the search for the caller's name went over the root
  module _ (s : List ℕ) (g : Option (List ℕ)) (given : g ≡ name_given s) (r : Result (List ℕ) Refusal) (asked : r ≡ ok_or g BreaksRules) (name : List ℕ) (fits : r ≡ Ok name)
      (root count : ℕ) (re : root ≡ root_at k) (ce : count ≡ root_entries k) (f : Option ℕ) (found : f ≡ slot_named img (slot_from root) count name)
      (o : Result ℕ Refusal) (wanted : o ≡ ok_or f FileNotFound) where
    named_so : g ≡ Some name
    named_so = had g BreaksRules r asked name fits

    found_is : file_found img s ≡ f
    unfolding file_found
    found_is = rw (is_kind, ← given, named_so, found, re, ce)

    pub root_stops : (d : Refusal) → o ≡ Err d → (rows : List Row) → Stops ((no_file img s, file_not_found) ∷ rows) (refusal_number d)
    root_stops d q rows =
        let l = lacked f FileNotFound o wanted d q in
        rw (← l.1) (stops_at (no_file img s) file_not_found rows (rw (found_is, l.0)) refl)

    module _ (slot : ℕ) (there : o ≡ Ok slot) where
      at : f ≡ Some slot
      at = had f FileNotFound o wanted slot there

      pub root_past : (m n : ℕ) (rows : List Row) → Stops rows n → Stops ((no_file img s, m) ∷ rows) n
      root_past m n rows x = stops_past (no_file img s) m n rows (rw (found_is, at)) x

      pub found_file : IsFile k img slot
      found_file = named_file img k name f (rw (re, ce) at found) slot at

      pub found_low : slot ≤ root_entries k
      found_low = let h : slot < root_entries k = found_file.below in omega arith

      pub found_inside : (a : ℕ) → a ≡ slot_at k slot → a + 32 ≤ length img
      found_inside a i = slot_inside img k e slot a found_file.below i

      module _ (b : Bool) (judged : b ≡ good_chain k img slot) where
        pub chain_stops : not b ≡ true → (rows : List Row) → Stops ((not (good_chain (the_kind img) img (file_slot img s)), access_denied) ∷ rows) access_denied
        chain_stops h rows = stops_at _ access_denied rows (rw (found_is, at, is_kind, ← judged, h)) refl

        pub rescue_well : not b ≡ false → (a size n : ℕ) → a ≡ slot_at k slot → size ≡ size_of img a → (out : List ℕ) → n ≡ rescue_count (length out) size
            → (after : List ℕ) → after ≡ stored out 0 (take n (file_bytes k img (slot_at k slot))) → (c : Answer) → c ≡ Ok n → Rescues img s out c after
        unfolding rescue_outcome decided refusal
        rescue_well h a size n ae ze out ne after q c x =
            record { is = rw (x, q, passed, found_is, ← given, named_so, at, is_kind, ← judged, h, ← ae, ← ze, ← ne) }

pub good_chain_lem : (k : Kind) (img : List ℕ) (slot : ℕ) (b : Bool) → b ≡ good_chain k img slot → not b ≡ false → good_chain k img slot ≡ true
good_chain_lem k img slot b judged h = sym judged ∙ not-false b h

-- for `search`
pub ruleset rows = (kind_past, name_stops, name_past, root_stops, root_past, chain_stops)
