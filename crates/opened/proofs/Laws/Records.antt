-- How large a field is; what a store inside place p leaves, of that place and of all others. A field is an offset and a width,
-- so that one law serves every store.
use Rattle.std.specs.Prelude.{ℕ, ◌+◌, ◌≤◌, ◌<◌, List, ◌≢◌, ◌≡◌, eqb, length, get_or}
use Rattle.std.proofs.Common.{arith, inl, inr}
use Rattle.std.proofs.Math.Decide.{dec_lt}
use Rattle.std.proofs.Math.Bool.{not}
use Rattle.std.proofs.Math.Path.{ap}
use Rattle.image.specs.Bytes.{Bytes}
use Rattle.image.specs.Store.{stored}
use Rattle.image.specs.Aids.Ranges.{Outside, Apart}
use Rattle.image.specs.Numbers.{number}
use Rattle.image.proofs.Laws.Store.{length_stored, stored_outside}
use Rattle.image.proofs.Laws.Numbers.{number_small, number_apart}
use Rattle.opened.specs.Records.{place_count, place_at, used_of, slot_of, access_of, pointer_of, written_of}
use Rattle.opened.specs.Changes.{SamePlace, OnlyAt}

-- ---- how large a field is

module _ (t : List ℕ) (p : ℕ) (b : Bytes t) where
  pub slot_small : slot_of t p < 4294967296
  unfolding slot_of
  slot_small = number_small t (place_at p + 4) 4 b

  pub pointer_small : pointer_of t p < 4294967296
  unfolding pointer_of
  pointer_small = number_small t (place_at p + 8) 4 b

-- ---- what a store leaves

-- m has of place q of t every field with which the n bytes from byte at on have nothing in common
pub record Untouched (m t : List ℕ) (at n q : ℕ) : Type 0 where
  pub used : Outside at n (place_at q) → used_of m q ≡ used_of t q
  pub access : Outside at n (place_at q + 1) → access_of m q ≡ access_of t q
  pub slot : Apart at n (place_at q + 4) 4 → slot_of m q ≡ slot_of t q
  pub pointer : Apart at n (place_at q + 8) 4 → pointer_of m q ≡ pointer_of t q
  pub written : Outside at n (place_at q + 2) → written_of m q ≡ written_of t q

-- bytes of two places have nothing in common
places_apart : (p q at n b w : ℕ) → q ≢ p → place_at p ≤ at → at + n ≤ place_at p + 16 → place_at q ≤ b → b + w ≤ place_at q + 16 → Apart at n b w
places_apart p q at n b w d f g h k = elim (dec_lt p q) [ yes e ↦ inl (omega arith) | no e ↦ inr (omega arith) ]

places_outside : (p q at n j : ℕ) → q ≢ p → place_at p ≤ at → at + n ≤ place_at p + 16 → place_at q ≤ j → j < place_at q + 16 → Outside at n j
places_outside p q at n j d f g h k = elim (dec_lt p q) [ yes e ↦ inr (omega arith) | no e ↦ inl (omega arith) ]

module _ (t : List ℕ) (at n : ℕ) (s : List ℕ) (long : length s ≡ n) where
  byte : (j : ℕ) → Outside at n j → get_or (stored t at s) j 0 ≡ get_or t j 0
  byte j o = stored_outside t at s j (rw long o)

  run : (b : ℕ) → Apart at n b 4 → number (stored t at s) b 4 ≡ number t b 4
  run b o = number_apart t at s b 4 (rw long o)

  pub untouched : (q : ℕ) → Untouched (stored t at s) t at n q
  unfolding used_of access_of slot_of pointer_of written_of
  untouched q = record {
    used = λ o. ap (λ (b : ℕ). not (eqb b 0)) (byte (place_at q) o);
    access = byte (place_at q + 1);
    slot = run (place_at q + 4);
    pointer = run (place_at q + 8);
    written = λ o. ap (λ (b : ℕ). not (eqb b 0)) (byte (place_at q + 2) o);
  }

  module _ (p : ℕ) (from : place_at p ≤ at) (to : at + n ≤ place_at p + 16) where
    other_place : (q : ℕ) → q ≢ p → SamePlace (stored t at s) t q
    other_place q d =
        let u = untouched q in
        record {
          used = u.used (places_outside p q at n (place_at q) d from to (omega arith) (omega arith));
          access = u.access (places_outside p q at n (place_at q + 1) d from to (omega arith) (omega arith));
          slot = u.slot (places_apart p q at n (place_at q + 4) 4 d from to (omega arith) (omega arith));
          pointer = u.pointer (places_apart p q at n (place_at q + 8) 4 d from to (omega arith) (omega arith));
          written = u.written (places_outside p q at n (place_at q + 2) d from to (omega arith) (omega arith));
        }

    pub only_place : p < place_count t → OnlyAt p (stored t at s) t
    only_place k = record {
      long = length_stored t at s;
      others = other_place;
      past = λ j h. byte j (inr (omega arith));
    }
