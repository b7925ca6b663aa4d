-- Rename: what it refuses and what it leaves, by its rows. Only one outcome fits.
use Rattle.std.specs.Prelude.{ℕ, Bool, true, false, not, List, [], ◌∷◌, ◌≡◌, Option, Some, Result, Ok, Err, ok_or}
use Rattle.std.proofs.Math.Path.{refl}
use Rattle.std.proofs.Common.{sym, ap, ◌∙◌}
use Rattle.diskette.specs.Places.{root_entries, slot_at}
use Rattle.diskette.specs.declared.Kind.{Kind}
use Rattle.search.specs.Search.{is_found}
use Rattle.fields.specs.Fields.{with_name}
use Rattle.directory.specs.Search.{slot_named}
use Rattle.names.specs.Reading.{name_given}
use Rattle.opened.specs.Places.{is_open}
use Rattle.calls.specs.declared.refusal.Refusal.{Refusal}
use Rattle.calls.specs.declared.refusal.Refusal.TheVariants.{BreaksRules}
use Rattle.calls.proofs.Laws.Exits.{had}
use Rattle.calls.specs.Numbers.{access_denied, refusal_number}
use Rattle.calls.specs.Outcome.{Outcome, refusal, decided}
use Rattle.calls.specs.Refusals.{read_only, bad_name, no_file}
use Rattle.calls.specs.Aids.Ready.{OnVolume}
use Rattle.calls.proofs.Laws.Rows.{Stops, stopped}
use Rattle.calls.proofs.Laws.Ready.{on_kind_lem}
use Rattle.calls.proofs.Laws.Files.{found_is}
use Rattle.calls.proofs.Laws.Named.{FileNamed}
use Rattle.calls.specs.Answers.{Answer}
use Rattle.calls.proofs.Laws.Told.{told_only}
use Rattle.renaming.specs.Rename.{rename_rows, rename_outcome, Renames}

pub renames_only : {img t s n : List ℕ} {r r' : Answer} {m m' : List ℕ} → Renames img t s n r m → Renames img t s n r' m'
    → (r ≡ r') × (m ≡ m')
renames_only x y =
    let e = x.is ∙ sym y.is in
    (told_only (ap (λ (o : Outcome). o.number) e) (ap (λ (o : Outcome). o.value) e), ap (λ (o : Outcome). o.image) e)

-- ---- the new name: g is what it reads as, b whether it is taken

module _ (n : List ℕ) (g : Option (List ℕ)) (given : g ≡ name_given n) (r : Result (List ℕ) Refusal) (asked : r ≡ ok_or g BreaksRules)
    (name : List ℕ) (fits : r ≡ Ok name) where
  good : name_given n ≡ Some name
  good = sym given ∙ had g BreaksRules r asked name fits

  pub new_good : bad_name n ≡ false
  new_good = rw good

  module _ (img : List ℕ) (k : Kind) (v : OnVolume img k) (p : Bool) (taken : p ≡ is_found (slot_named img (slot_at k) (root_entries k) name)) where
    twice : (b : Bool) → b ≡ not (not b)
    twice true = refl
    twice false = refl

    pub is_taken : p ≡ not (no_file img n)
    is_taken = taken ∙ rw (found_is img k v n (name_given n) refl name good (slot_named img (slot_at k) (root_entries k) name) refl) (twice _)

    pub rename_well : (t s : List ℕ) (slot : ℕ) (o : Bool) → o ≡ is_open t slot → o ≡ false → (b : Bool) → b ≡ read_only img slot → b ≡ false → p ≡ false
        → (m : List ℕ) → m ≡ with_name img (slot_at k slot) name → (a : Answer) → a ≡ Ok 0 → FileNamed img s slot → Renames img t s n a m
    unfolding rename_outcome decided refusal
    rename_well t s slot o used shut b kept free new m j a x i = record {
      is = rw (x, j, i.known, i.sound, i.good, i.found, ← used, shut, ← kept, free, ← is_taken, new, good, on_kind_lem img k v);
    }

-- ---- one row stops it

pub rename_refused : {img t s n : List ℕ} {a : Answer} {e : Refusal} → a ≡ Err e → Stops (rename_rows img t s n) (refusal_number e) → Renames img t s n a img
unfolding rename_outcome
rename_refused x q = record { is = rw x (sym (stopped _ _ q _ _ _ [])) }

-- the last three rows, of the file in the slot
pub last_stops : {img s : List ℕ} (t n : List ℕ) {slot number : ℕ} → FileNamed img s slot → bad_name n ≡ false
    → Stops ((is_open t slot, access_denied) ∷ (read_only img slot, access_denied) ∷ (not (no_file img n), access_denied) ∷ []) number
    → Stops (rename_rows img t s n) number
unfolding refusal
last_stops t n i new x = record { number = rw (i.known, i.sound, i.good, new, i.found) x.number; some = x.some }
