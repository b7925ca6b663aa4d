-- Finding 4: the test of a slot decides what document 01 says of it, and the search finds the lowest such slot.
use Rattle.std.specs.Prelude.{ℕ, zero, suc, ◌*◌, ◌≤◌, ◌<◌, Bool, true, false, ◌&&◌, not, List, ◌⊎◌, ◌↔◌, ltb, length, get_or}
use Rattle.std.proofs.Common.{arith, inl, inr}
use Rattle.std.proofs.Math.Decide.{ℕ_discrete}
use Rattle.std.proofs.Math.Path.{◌≡◌, refl}
use Rattle.image.proofs.Laws.Store.{length_part}
use Rattle.chains.specs.Aids.Tests.{Says, aye, nay}
use Rattle.chains.specs.Aids.Verdict.{Finds}
use Rattle.chains.proofs.Laws.Tests.{says_eq, says_and, says_or, says_not, says_map, by_test, clash}
use Rattle.chains.proofs.Laws.Verdict.{lowest_finds}
use Rattle.diskette.specs.Places.{first_data, root_entries, slot_at}
use Rattle.diskette.specs.declared.Kind.{Kind}
use Rattle.fields.specs.Fields.{name_of, attr_of}
use Rattle.directory.specs.Slots.{has_bit, NeverUsedAt, LiveAt, LabelAt, PlainAt, standing_of, is_vacant, is_plain}
use Rattle.directory.specs.Search.{slot_named}
use Rattle.directory.proofs.Laws.Slots.{standing_label, live_is, plain_is}
use Rattle.directory.proofs.Laws.Search.{slot_named_answers}
use Rattle.directory.specs.declared.Standing.{Standing}
use Rattle.directory.specs.declared.Standing.TheVariants.{NeverUsed, Erased, Label, Plain}
use Rattle.search.specs.Search.{lowest}
use Rattle.slotcheck.proofs.Laws.Slots.{says_found}
use Rattle.slotcheck.specs.Aids.Slots.{any_below, is_label, is_live_entry, never_used_slot, label_slot, strange, strange_slot, name_twice_slot, bad_slot_by, bad_slot_at}
use Rattle.sound.specs.Findings.{AfterNeverUsed, StrangeEntry, SecondLabel, NameTwice, BadSlot}

-- ---- tests

-- a test is true or not
says_itself : (b : Bool) → Says b (b ≡ true)
says_itself b = by_test b (λ t. aye t t) (λ f. nay f (λ t. clash t f))

-- a test that is true exactly where P holds says so
says_iff : {P : Type 0} (b : Bool) → (b ≡ true) ↔ P → Says b P
says_iff b e = says_map e.0 e.1 (says_itself b)

-- some number below s has what the test decides
says_any : (p : ℕ → Bool) (P : ℕ → Type 0) → ((t : ℕ) → Says (p t) (P t)) → (s : ℕ) → Says (any_below p s) ((t : ℕ) × (t < s) × P t)
unfolding any_below
says_any p P d zero = nay refl (λ x. absurd (let h : x.0 < 0 = x.1 in omega arith))
says_any p P d (suc s) = says_map to from (says_or (says_any p P d s) (d s))
  where
    to : ((t : ℕ) × (t < s) × P t) ⊎ P s → (t : ℕ) × (t < suc s) × P t
    to (inl x) = let h : x.0 < s = x.1 in (x.0, omega arith, x.2)
    to (inr x) = (s, omega arith, x)

    from : ((t : ℕ) × (t < suc s) × P t) → ((t : ℕ) × (t < s) × P t) ⊎ P s
    from x = let h : x.0 < suc s = x.1 in elim (ℕ_discrete x.0 s) [
      | yes e ↦ inr (rw e at x.2)
      | no n ↦ inl (x.0, omega arith, x.2)
    ]

-- ---- what a slot stands for

module _ (l : List ℕ) (way : ℕ → ℕ) (s : ℕ) where
  says_never_used : Says (never_used_slot l way s) (NeverUsedAt l (way s))
  unfolding never_used_slot
  says_never_used = says_eq (get_or l (way s) 0) 0

  says_label : Says (label_slot l way s) (LabelAt l (way s))
  unfolding label_slot
  says_label = says_map (standing_label l (way s)).0 (standing_label l (way s)).1 (by (standing_of l (way s)))
    where
      by : (st : Standing) → Says (is_label st) (st ≡ Label)
      by NeverUsed = nay refl (λ e. let z : ◌≡◌ {A = ℕ} 0 1 = cc in omega arith)
      by Erased = nay refl (λ e. let z : ◌≡◌ {A = ℕ} 0 1 = cc in omega arith)
      by Label = aye refl refl
      by Plain = nay refl (λ e. let z : ◌≡◌ {A = ℕ} 0 1 = cc in omega arith)

  says_live : Says (is_live_entry (standing_of l (way s))) (LiveAt l (way s))
  says_live = says_map (live_is l (way s)).0 (live_is l (way s)).1 (by (standing_of l (way s)))
    where
      by : (st : Standing) → Says (is_live_entry st) (is_vacant st ≡ false)
      by NeverUsed = nay refl (λ e. clash refl e)
      by Erased = nay refl (λ e. clash refl e)
      by Label = aye refl refl
      by Plain = aye refl refl

  says_plain : Says (is_plain (standing_of l (way s))) (PlainAt l (way s))
  says_plain = says_iff (is_plain (standing_of l (way s))) (plain_is l (way s))

-- ---- the four parts

module _ (k : Kind) (l : List ℕ) (s : ℕ) where
  says_after : Says (not (never_used_slot l (slot_at k) s) && any_below (never_used_slot l (slot_at k)) s) (AfterNeverUsed k l s)
  says_after =
      says_and (says_not (says_never_used l (slot_at k) s))
      (says_any (never_used_slot l (slot_at k)) (λ t. NeverUsedAt l (slot_at k t)) (says_never_used l (slot_at k)) s)

  says_strange : Says (strange_slot l (slot_at k) s) (StrangeEntry k l s)
  unfolding strange_slot strange
  says_strange =
      let a = slot_at k s in
      says_and (says_live l (slot_at k) s)
      (says_or (says_eq (get_or l a 0) 0x2E)
      (says_or (says_itself (has_bit (attr_of l a) 0x10)) (says_or (says_itself (has_bit (attr_of l a) 0x40)) (says_itself (has_bit (attr_of l a) 0x80)))))

  says_second_label : Says (label_slot l (slot_at k) s && any_below (label_slot l (slot_at k)) s) (SecondLabel k l s)
  says_second_label =
      says_and (says_label l (slot_at k) s) (says_any (label_slot l (slot_at k)) (λ t. LabelAt l (slot_at k t)) (says_label l (slot_at k)) s)

  module _ (long : 512 * first_data k ≤ length l) (h : s < root_entries k) where
    says_name_twice : Says (name_twice_slot l (slot_at k) s) (NameTwice k l s)
    unfolding name_twice_slot
    says_name_twice =
        let name = name_of l (slot_at k s) in
        says_and (says_plain l (slot_at k) s)
        (says_map (λ x. (x.0, x.1.0, x.1.1.0, x.1.1.1)) (λ x. (x.0, (x.1, (x.2, x.3))))
        (says_found (λ t. (t < s) × (PlainAt l (slot_at k t) × (name_of l (slot_at k t) ≡ name))) (slot_named l (slot_at k) s name)
        (slot_named_answers l (slot_at k) s (λ t i. omega arith) name (length_part l (slot_at k s) 11 (omega arith)))))

    -- the test of a slot decides finding 4
    pub says_bad_slot : Says (bad_slot_at l (slot_at k) s) (AfterNeverUsed k l s ⊎ (StrangeEntry k l s ⊎ (SecondLabel k l s ⊎ NameTwice k l s)))
    unfolding bad_slot_at bad_slot_by
    says_bad_slot = says_or says_after (says_or says_strange (says_or says_second_label says_name_twice))

-- The search answers the lowest bad slot.
pub found_bad_slot : (k : Kind) (l : List ℕ) → 512 * first_data k ≤ length l
    → Finds ltb (BadSlot k l) (lowest (bad_slot_at l (slot_at k)) 0 (root_entries k))
found_bad_slot k l long =
    lowest_finds (BadSlot k l) (bad_slot_at l (slot_at k)) 0 (root_entries k)
    (λ s b. let h : s < root_entries k = b.0 in (omega arith, omega arith))
    (λ s z h. let e : s < root_entries k = omega arith in says_map (λ b. (e, b)) (λ b. b.1) (says_bad_slot k l s long e))
