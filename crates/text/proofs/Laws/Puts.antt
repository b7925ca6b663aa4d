-- Texts put one after the other are one text.
use Rattle.std.specs.Prelude.{ℕ, List, [], ◌++◌, ◌≡◌, refl}
use Rattle.std.proofs.Common.{arith, sym, ◌∙◌, length-append}
use Rattle.image.specs.Store.{stored}
use Rattle.image.proofs.Laws.Store.{stored_append}
use Rattle.text.specs.Aids.Puts.{Puts}

-- what is put there and what is answered is settled
pub only : {text l m m' : List ℕ} {at r r' : ℕ} → Puts text l at r m → Puts text l at r' m' → (r ≡ r') × (m ≡ m')
only p q = (p.next ∙ sym q.next, p.stores ∙ sym q.stores)

pub puts_nothing : (l : List ℕ) (at : ℕ) → Puts [] l at at l
unfolding stored
puts_nothing l at = record { stores = refl; next = omega arith }

pub puts_then : (s t l : List ℕ) (at r : ℕ) (m : List ℕ) (r' : ℕ) (m' : List ℕ) → Puts s l at r m → Puts t m r r' m' → Puts (s ++ t) l at r' m'
puts_then s t l at r m r' m' p q =
    record {
      stores = rw (stored_append l at s t, ← p.next, ← p.stores) q.stores;
      next = rw (length-append s t) (omega arith);
    }
