-- Files, slots and places of a volume that is ready, in the form of the code's needs.
use Rattle.std.specs.Prelude.{ℕ, ◌+◌, ◌*◌, ◌≤◌, ◌<◌, Bool, true, false, not, List, ◌∷◌, ◌≡◌, refl, length, Option, Some, None, Result, Ok, Err, ok_or}
use Rattle.std.proofs.Common.{arith, sym, ◌∙◌}
use Rattle.diskette.specs.Places.{first_data, root_at, root_entries, slot_at, slot_from}
use Rattle.diskette.specs.declared.Kind.{Kind}
use Rattle.search.proofs.Laws.Meaning.{LowestIs, lowest_is}
use Rattle.fields.specs.Fields.{attr_of}
use Rattle.directory.specs.Slots.{has_bit}
use Rattle.directory.specs.Search.{lowest_vacant, slot_named}
use Rattle.directory.specs.Aids.Search.{named_slot}
use Rattle.names.specs.Reading.{name_given}
use Rattle.opened.specs.Records.{place_count, slot_of}
use Rattle.opened.specs.Places.{is_live, lowest_unused}
use Rattle.opened.specs.Aids.Places.{live_slot, unused_at}
use Rattle.opened.proofs.Laws.Places.{live_slot_is, live_slot_none, live_is}
use Rattle.calls.specs.Outcome.{Row}
use Rattle.calls.specs.Numbers.{too_many_open, invalid_handle, refusal_number}
use Rattle.calls.specs.declared.refusal.Refusal.{Refusal}
use Rattle.calls.specs.declared.refusal.Refusal.TheVariants.{TooManyOpen, InvalidHandle}
use Rattle.calls.proofs.Laws.Exits.{lacked, had}
use Rattle.calls.specs.Refusals.{file_found, read_only, not_live, no_place}
use Rattle.calls.specs.Aids.Ready.{OnVolume}
use Rattle.calls.proofs.Laws.Ready.{on_kind_lem, on_usable, on_area, volume_past}
use Rattle.calls.proofs.Laws.Rows.{Stops, stops_at, stops_past}

-- ---- what a search finds is one of those searched

pub below_by : (p : ℕ → Bool) (n s : ℕ) (f : Option ℕ) → LowestIs p 0 n f → f ≡ Some s → s < n
below_by p n s (Some i) x e = let z : i ≡ s = cc in let y : i < 0 + n = x.1 in omega arith
below_by p n s None x e = absurd (let z : ◌≡◌ {A = ℕ} 0 1 = cc in omega arith)

module _ (img : List ℕ) (k : Kind) (name : List ℕ) (f : Option ℕ) (e : f ≡ slot_named img (slot_at k) (root_entries k) name) where
  pub named_below : (slot : ℕ) → f ≡ Some slot → slot < root_entries k
  unfolding slot_named
  named_below slot q = below_by (named_slot img (slot_at k) name) (root_entries k) slot f (rw e (lowest_is (named_slot img (slot_at k) name) 0 (root_entries k))) q

  pub named_at_most : (slot : ℕ) → f ≡ Some slot → slot ≤ root_entries k
  named_at_most slot q = let x : slot < root_entries k = named_below slot q in omega arith

  -- so it fits 32 bits
  pub named_fits : OnVolume img k → (slot : ℕ) → f ≡ Some slot → slot < 4294967296
  named_fits v slot q =
      let h : slot < root_entries k = named_below slot q in
      let r : k.root ≤ 4096 = (on_usable img k v).few_slots in
      omega arith

-- ---- what the code finds from the byte of the root on, in as many slots, it finds in the root

module _ (img : List ℕ) (k : Kind) (root count : ℕ) (e : root ≡ root_at k) (n : count ≡ root_entries k) (f : Option ℕ) where
  pub named_in_root : (name : List ℕ) → f ≡ slot_named img (slot_from root) count name → f ≡ slot_named img (slot_at k) (root_entries k) name
  named_in_root name q = rw (e, n) at q

  pub vacant_in_root : f ≡ lowest_vacant img (slot_from root) count → f ≡ lowest_vacant img (slot_at k) (root_entries k)
  vacant_in_root q = rw (e, n) at q

  pub live_in_root : (t : List ℕ) (h : ℕ) → f ≡ live_slot t h img (slot_from root) count → f ≡ live_slot t h img (slot_at k) (root_entries k)
  live_in_root t h q = rw (e, n) at q

-- ---- the lowest unused place

module _ (t : List ℕ) (f : Option ℕ) (lowest : f ≡ lowest_unused t) (o : Result ℕ Refusal) (wanted : o ≡ ok_or f TooManyOpen) where
  pub place_stops : (e : Refusal) → o ≡ Err e → (rows : List Row) → Stops ((no_place t, too_many_open) ∷ rows) (refusal_number e)
  place_stops e q rows =
      let l = lacked f TooManyOpen o wanted e q in
      rw (← l.1) (stops_at (no_place t) too_many_open rows (rw (← lowest, l.0)) refl)

  module _ (place : ℕ) (there : o ≡ Ok place) where
    pub place_at : f ≡ Some place
    place_at = had f TooManyOpen o wanted place there

    pub unused_below : place < place_count t
    unfolding lowest_unused
    unused_below = below_by (unused_at t) (place_count t) place f (rw lowest (lowest_is (unused_at t) 0 (place_count t))) place_at

    pub unused_fits : place < 4294967296
    unused_fits = let h : place < place_count t = unused_below in omega arith

-- ---- a volume that is ready

module _ (img : List ℕ) (k : Kind) (v : OnVolume img k) where
  -- the root stands within the image
  pub root_within : (root count : ℕ) → root ≡ root_at k → count ≡ root_entries k → root + 32 * count ≤ length img
  root_within root count e f = let h : 512 * first_data k ≤ length img = on_area img k v in omega arith

  -- and so each of its slots
  pub slots_within : (slot : ℕ) → slot < root_entries k → slot_at k slot + 32 ≤ length img
  slots_within slot h = let b : 512 * first_data k ≤ length img = on_area img k v in omega arith

  pub slot_within : (slot a : ℕ) → slot < root_entries k → a ≡ slot_at k slot → a + 32 ≤ length img
  slot_within slot a h e = rw e (slots_within slot h)

  -- a file looked for by the name that a caller gave
  pub found_is : (s : List ℕ) (g : Option (List ℕ)) → g ≡ name_given s → (name : List ℕ) → g ≡ Some name → (f : Option ℕ)
      → f ≡ slot_named img (slot_at k) (root_entries k) name → file_found img s ≡ f
  unfolding file_found
  found_is s g e name h f q = rw (on_kind_lem img k v, ← e, h, q)

  pub read_only_is : (slot a attr : ℕ) → a ≡ slot_at k slot → attr ≡ attr_of img a → (b : Bool) → b ≡ has_bit attr 0x01 → b ≡ read_only img slot
  unfolding read_only
  read_only_is slot a attr e f b q = rw (on_kind_lem img k v, q, f, e)

  -- the entry of a file that was found stands within the image
  pub named_within : (name : List ℕ) (f : Option ℕ) → f ≡ slot_named img (slot_at k) (root_entries k) name → (slot : ℕ) → f ≡ Some slot → (a : ℕ) → a ≡ slot_at k slot → a + 32 ≤ length img
  named_within name f e slot q a i = slot_within slot a (named_below img k name f e slot q) i

-- ---- the slot that a handle reaches

not_live_by : (b : Bool) → (b ≡ true → ⊥) → not b ≡ true
not_live_by true n = absurd (n refl)
not_live_by false n = refl

module _ (img : List ℕ) (k : Kind) (t : List ℕ) (h : ℕ) (f : Option ℕ) (e : f ≡ live_slot t h img (slot_at k) (root_entries k))
    (o : Result ℕ Refusal) (wanted : o ≡ ok_or f InvalidHandle) where
  pub not_live_lem : OnVolume img k → f ≡ None → not_live img t h ≡ true
  unfolding not_live
  not_live_lem v q = rw (on_kind_lem img k v)
      (not_live_by (is_live t h img (slot_at k) (root_entries k))
      (λ x. (live_slot_none t h img (slot_at k) (root_entries k)).0 (sym e ∙ q) ((live_is t h img (slot_at k) (root_entries k)).0 x)))

  pub handle_stops : OnVolume img k → (d : Refusal) → o ≡ Err d → (rows : List Row) → Stops ((not_live img t h, invalid_handle) ∷ rows) (refusal_number d)
  handle_stops v d q rows =
      let l = lacked f InvalidHandle o wanted d q in
      rw (← l.1) (stops_at (not_live img t h) invalid_handle rows (not_live_lem v l.0) refl)

  module _ (slot : ℕ) (there : o ≡ Ok slot) where
    live_found : live_slot t h img (slot_at k) (root_entries k) ≡ Some slot
    live_found = sym e ∙ had f InvalidHandle o wanted slot there

    pub live_passed : OnVolume img k → not_live img t h ≡ false
    unfolding not_live
    live_passed v = rw (on_kind_lem img k v, (live_is t h img (slot_at k) (root_entries k)).1 (live_slot_is t h img (slot_at k) (root_entries k) slot live_found).0)

    pub handle_past : OnVolume img k → (m n : ℕ) (rows : List Row) → Stops rows n → Stops ((not_live img t h, m) ∷ rows) n
    handle_past v m n rows x = stops_past (not_live img t h) m n rows (live_passed v) x

    pub live_slot_lem : slot ≡ slot_of t h
    live_slot_lem = sym (live_slot_is t h img (slot_at k) (root_entries k) slot live_found).1

    pub live_below : slot < root_entries k
    live_below =
        let x : slot_of t h < root_entries k = (live_slot_is t h img (slot_at k) (root_entries k) slot live_found).0.slot in
        let y : slot ≡ slot_of t h = live_slot_lem in
        omega arith

    pub live_at_most : slot ≤ root_entries k
    live_at_most = let x : slot < root_entries k = live_below in omega arith

    -- its entry stands within the image
    pub live_within : OnVolume img k → (a : ℕ) → a ≡ slot_at k slot → a + 32 ≤ length img
    live_within v a i = slot_within img k v slot a live_below i

    pub live_counted : h < place_count t
    live_counted = (live_slot_is t h img (slot_at k) (root_entries k) slot live_found).0.counted

-- the rows in front of every call by a handle, for `search`
pub ruleset reached = (volume_past, handle_stops, handle_past)
