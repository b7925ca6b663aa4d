-- Entry at a slot: in the form of the code's needs, what its answer means, and that one answer only is allowed.
use Rattle.std.specs.Prelude.{ℕ, ◌+◌, ◌≤◌, ◌<◌, Bool, true, false, cond, not, List, ◌≡◌, length, Option, Some, None, Result, Ok, Err, ok_or}
use Rattle.std.proofs.Common.{arith, sym, ◌∙◌}
use Rattle.std.proofs.Math.Path.{ap}
use borrow.Author.Tests.{le-leb, lt-leb, not-true, not-false}
use Rattle.diskette.specs.Images.{kind_of_image}
use Rattle.diskette.specs.Aids.Usable.{Usable}
use Rattle.diskette.specs.Places.{root_entries, slot_at}
use Rattle.diskette.proofs.Laws.Images.{image_of_kind, image_usable, image_has_area}
use Rattle.diskette.proofs.Laws.Places.{slot_before_data}
use Rattle.diskette.specs.declared.Kind.{Kind}
use Rattle.directory.specs.Slots.{standing_of, is_vacant, VacantAt, LiveAt}
use Rattle.directory.proofs.Laws.Slots.{vacant_is, live_is}
use Rattle.directory.specs.declared.Standing.{Standing}
use Rattle.calls.proofs.Laws.Exits.{lacked, had}
use Rattle.calls.specs.declared.refusal.Refusal.{Refusal}
use Rattle.calls.specs.declared.refusal.Refusal.TheVariants.{OfNoKind}
use Rattle.entries.specs.Entry.{as_stored, on_kind, entry_told, Told}
use Rattle.entries.specs.declared.EntryFields.{EntryFields}

-- ---- a slot by what it stands for: m is what was read, b whether it is told

module _ (l : List ℕ) (a : ℕ) (m : Standing) (b : Bool) (e : m ≡ standing_of l a) (t : b ≡ not (is_vacant m)) where
  pub told : b ≡ true → (x : EntryFields) → x ≡ as_stored l a → Some x ≡ cond (is_vacant (standing_of l a)) None (Some (as_stored l a))
  told q x h = rw (← e, not-true (is_vacant m) (sym t ∙ q), h)

  pub untold : b ≡ false → None ≡ cond (is_vacant (standing_of l a)) None (Some (as_stored l a))
  untold q = rw (← e, not-false (is_vacant m) (sym t ∙ q))

-- ---- the whole answer: r is the kind that was found, o what was wanted of it

module _ (l : List ℕ) (s : ℕ) (r : Option Kind) (p : r ≡ kind_of_image l) (o : Result Kind Refusal) (wanted : o ≡ ok_or r OfNoKind) where
  pub not_of_a_kind : (e : Refusal) → o ≡ Err e → (x : Result (Option EntryFields) Refusal) → x ≡ Err e → Told l s x
  unfolding entry_told
  not_of_a_kind e q x h = let n = lacked r OfNoKind o wanted e q in record { is = rw (← p, n.0) (h ∙ ap Err (sym n.1)) }

  module _ (k : Kind) (q : o ≡ Ok k) where
    known : kind_of_image l ≡ Some k
    known = sym p ∙ had r OfNoKind o wanted k q

    pub kind_usable : Usable k
    kind_usable = image_usable l k known

    pub out_of_range_lem : (n : ℕ) → n ≡ root_entries k → n ≤ s → Told l s (Ok None)
    unfolding entry_told
    out_of_range_lem n e h = record { is = rw (known, le-leb (root_entries k) s (omega arith)) }

    module _ (n : ℕ) (e : n ≡ root_entries k) (h : s < n) (a : ℕ) (g : a ≡ slot_at k s) where
      pub slot_within : a + 32 ≤ length l
      slot_within =
          let i = (image_of_kind l k).0 known in
          omega (arith, slot_before_data k kind_usable s (omega arith), image_has_area l k i kind_usable)

      pub in_range : (x : Option EntryFields) → x ≡ cond (is_vacant (standing_of l a)) None (Some (as_stored l a)) → Told l s (Ok x)
      unfolding entry_told
      in_range x y = record { is = rw (known, lt-leb (root_entries k) s (omega arith), ← g, y) }

-- ---- what the answer means

module _ (l : List ℕ) (s : ℕ) where
  pub told_refused : kind_of_image l ≡ None → entry_told l s ≡ Err OfNoKind
  unfolding entry_told
  told_refused q = rw q

  module _ (k : Kind) (q : kind_of_image l ≡ Some k) where
    pub told_out_of_range : root_entries k ≤ s → entry_told l s ≡ Ok None
    unfolding entry_told
    told_out_of_range h = rw (q, le-leb (root_entries k) s h)

    module _ (h : s < root_entries k) where
      abbrev at : ℕ
      at = slot_at k s

      pub told_open : VacantAt l at → entry_told l s ≡ Ok None
      unfolding entry_told
      told_open o = rw (q, lt-leb (root_entries k) s h, (vacant_is l at).1 o)

      -- the label too
      pub told_live : LiveAt l at → entry_told l s ≡ Ok (Some (as_stored l at))
      unfolding entry_told
      told_live v = rw (q, lt-leb (root_entries k) s h, (live_is l at).1 v)

-- ---- no second answer satisfies the contract

pub told_only : (img : List ℕ) (slot : ℕ) (x y : Result (Option EntryFields) Refusal) → Told img slot x → Told img slot y → x ≡ y
told_only img slot x y s t = s.is ∙ sym t.is
