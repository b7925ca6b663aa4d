-- Which places are live or unused, and which files are open, is seen from used, access and slot alone.
use Rattle.std.specs.Prelude.{ℕ, ◌<◌, Bool, true, List, ◌≢◌, ◌≡◌, length}
use Rattle.std.proofs.Common.{arith, ◌∙◌}
use Rattle.std.proofs.Math.Decide.{ℕ_discrete}
use Rattle.std.proofs.Math.Bool.{not}
use Rattle.std.proofs.Math.Path.{sym, ap}
use Rattle.search.specs.Search.{lowest, is_found}
use Rattle.search.proofs.Laws.Meaning.{lowest_same}
use Rattle.opened.specs.Records.{place_count, used_of, slot_of, access_of, pointer_of, written_of, with_record, with_pointer, with_written}
use Rattle.opened.specs.Changes.{PlaceHolds, OnlyAt}
use Rattle.opened.specs.Aids.Uses.{SameUse, SameUses}
use Rattle.opened.specs.Places.{is_live, NamesAt, is_open, lowest_unused}
use Rattle.opened.specs.Aids.Places.{live_slot, names_slot, unused_at}
use Rattle.opened.proofs.Laws.Places.{names_not, open_is}
use Rattle.opened.proofs.Laws.Stores.{record_only, record_holds, pointer_only, pointer_holds, written_only, written_holds}

-- as many places count
pub only_count : (p : ℕ) (m t : List ℕ) → OnlyAt p m t → place_count m ≡ place_count t
only_count p m t o = let e : length m ≡ length t = o.long in omega arith

-- ---- one place

module _ (m t : List ℕ) (count : place_count m ≡ place_count t) (h : ℕ) (same : SameUse m t h) where
  pub same_live : (l : List ℕ) (way : ℕ → ℕ) (slots : ℕ) → is_live m h l way slots ≡ is_live t h l way slots
  unfolding is_live
  same_live l way slots = rw (count, same.used, same.access, same.slot)

  pub same_live_slot : (l : List ℕ) (way : ℕ → ℕ) (slots : ℕ) → live_slot m h l way slots ≡ live_slot t h l way slots
  unfolding live_slot
  same_live_slot l way slots = rw (same_live l way slots, same.slot)

-- ---- all places

search_same : (m t : List ℕ) → place_count m ≡ place_count t → (f g : ℕ → Bool) → ((p : ℕ) → p < place_count t → f p ≡ g p)
    → lowest f 0 (place_count m) ≡ lowest g 0 (place_count t)
search_same m t c f g e = ap (lowest f 0) c ∙ lowest_same f g 0 (place_count t) (λ p i k. e p (omega arith))

module _ (m t : List ℕ) (same : SameUses m t) where
  pub same_unused : lowest_unused m ≡ lowest_unused t
  unfolding lowest_unused
  same_unused = search_same m t same.count (unused_at m) (unused_at t) (λ p k. ap not (same.each p k).used)

  pub same_open : (slot : ℕ) → is_open m slot ≡ is_open t slot
  unfolding is_open
  same_open slot = ap is_found (search_same m t same.count (names_slot m slot) (names_slot t slot) (λ p k. let u = same.each p k in rw (u.used, u.slot)))

use_of : (m t : List ℕ) (q y : ℕ) (v : Bool) → PlaceHolds m q (used_of t q) (access_of t q) (slot_of t q) y v → SameUse m t q
use_of m t q y v h = record { used = h.used; access = h.access; slot = h.slot }

-- ---- all places but p

module _ (m t : List ℕ) (p : ℕ) (only : OnlyAt p m t) where
  pub other_use : (q : ℕ) → q ≢ p → SameUse m t q
  other_use q d = use_of m t q (pointer_of t q) (written_of t q) (only.others q d)

  pub other_live : (q : ℕ) → q ≢ p → (l : List ℕ) (way : ℕ → ℕ) (slots : ℕ) → live_slot m q l way slots ≡ live_slot t q l way slots
  other_live q d = same_live_slot m t (only_count p m t only) q (other_use q d)

  -- a slot that place p names neither before nor after
  pub other_open : (slot : ℕ) → ¬ NamesAt m slot p → ¬ NamesAt t slot p → is_open m slot ≡ is_open t slot
  unfolding is_open
  other_open slot x y =
      ap is_found
      (search_same m t (only_count p m t only) (names_slot m slot) (names_slot t slot)
      (λ q k. elim (ℕ_discrete q p) [
        | yes e ↦ rw e (names_not m slot p x ∙ sym (names_not t slot p y))
        | no e ↦ let u = other_use q e in rw (u.used, u.slot)
      ]))

-- a place taken opens its file
pub record_opens : (t : List ℕ) (p access slot pointer : ℕ) (written : Bool) → p < place_count t → slot < 4294967296 → pointer < 4294967296
    → is_open (with_record t p access slot pointer written) slot ≡ true
record_opens t p access slot pointer written k h j =
    let x = record_holds t p k access slot pointer written h j in
    let e = only_count p (with_record t p access slot pointer written) t (record_only t p k access slot pointer written) in
    (open_is (with_record t p access slot pointer written) slot).1 (p, rw e k, record { used = x.used; names = x.slot })

-- ---- a pointer moved, a place marked as written

module _ (t m : List ℕ) (p : ℕ) (x : ℕ) (w : Bool) (only : OnlyAt p m t) (own : PlaceHolds m p (used_of t p) (access_of t p) (slot_of t p) x w) where
  pub same_uses : SameUses m t
  same_uses = record {
    count = only_count p m t only;
    each = λ q k. elim (ℕ_discrete q p) [
      | yes e ↦ rw e (use_of m t p x w own)
      | no e ↦ other_use m t p only q e
    ];
  }

module _ (t : List ℕ) (p : ℕ) (k : p < place_count t) where
  pub pointer_uses : (v : ℕ) → v < 4294967296 → SameUses (with_pointer t p v) t
  pointer_uses v h = same_uses t (with_pointer t p v) p v (written_of t p) (pointer_only t p k v) (pointer_holds t p k v h)

  pub written_uses : SameUses (with_written t p) t
  written_uses = same_uses t (with_written t p) p (pointer_of t p) true (written_only t p k) (written_holds t p k)
