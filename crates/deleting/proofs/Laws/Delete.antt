-- Delete: what it refuses and what it leaves, by its rows. Only one outcome fits.
use Rattle.std.specs.Prelude.{ℕ, Bool, false, List, [], ◌∷◌, ◌≡◌, Ok, Err}
use Rattle.std.proofs.Common.{sym, ap, ◌∙◌}
use Rattle.diskette.specs.declared.Kind.{Kind}
use Rattle.opened.specs.Places.{is_open}
use Rattle.calls.specs.declared.refusal.Refusal.{Refusal}
use Rattle.calls.specs.Numbers.{access_denied, refusal_number}
use Rattle.calls.specs.Outcome.{Outcome, refusal, decided}
use Rattle.calls.specs.Refusals.{read_only}
use Rattle.calls.specs.Aids.Ready.{OnVolume}
use Rattle.calls.proofs.Laws.Rows.{Stops, stopped}
use Rattle.calls.proofs.Laws.Ready.{on_kind_lem}
use Rattle.calls.proofs.Laws.Named.{FileNamed}
use Rattle.calls.specs.Answers.{Answer}
use Rattle.calls.proofs.Laws.Told.{told_only}
use Rattle.deleting.specs.Delete.{delete_rows, erased_in, delete_outcome, Deletes}

pub deletes_only : {img t s : List ℕ} {r r' : Answer} {m m' : List ℕ} → Deletes img t s r m → Deletes img t s r' m'
    → (r ≡ r') × (m ≡ m')
deletes_only x y =
    let e = x.is ∙ sym y.is in
    (told_only (ap (λ (o : Outcome). o.number) e) (ap (λ (o : Outcome). o.value) e), ap (λ (o : Outcome). o.image) e)

-- ---- one row stops it, or all are passed

pub delete_refused : {img t s : List ℕ} {a : Answer} {e : Refusal} → a ≡ Err e → Stops (delete_rows img t s) (refusal_number e) → Deletes img t s a img
unfolding delete_outcome
delete_refused x q = record { is = rw x (sym (stopped _ _ q _ _ _ [])) }

-- the last two rows, of the file in the slot
pub last_stops : {img s : List ℕ} (t : List ℕ) {slot number : ℕ} → FileNamed img s slot
    → Stops ((is_open t slot, access_denied) ∷ (read_only img slot, access_denied) ∷ []) number → Stops (delete_rows img t s) number
unfolding refusal
last_stops t i x = record { number = rw (i.known, i.sound, i.good, i.found) x.number; some = x.some }

module _ (img t s : List ℕ) (k : Kind) (v : OnVolume img k) (slot : ℕ) (a : Answer) where
  pub delete_well : (o : Bool) → o ≡ is_open t slot → o ≡ false → (b : Bool) → b ≡ read_only img slot → b ≡ false
      → (m : List ℕ) → m ≡ erased_in k img slot → a ≡ Ok 0 → FileNamed img s slot → Deletes img t s a m
  unfolding delete_outcome decided refusal
  delete_well o used shut b kept free m j x i = record {
    is = rw (x, j, i.known, i.sound, i.good, i.found, ← used, shut, ← kept, free, on_kind_lem img k v);
  }
