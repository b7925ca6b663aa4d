-- The checksums of names, byte by byte, and what their marks tell of a slot's name.
use Prim.Native.Nat.{ℕ, ◌+◌, ◌*◌, ◌≤◌, ◌<◌}
use native.Mathlib.Omega.{arith}
use Rattle.std.proofs.Math.Decide.{ℕ_discrete}
use Rattle.std.specs.Prelude.{Bool, true, false, not, List, ◌≢◌, ◌≡◌, refl, length, get_or, set, replicate, ℕ, Option}
use Rattle.std.proofs.Common.{sym, ◌∙◌, ap, length-set, get_or-set_same, get_or-set_other}
use Rattle.std.proofs.lemmas.List.{length-replicate}
use Rattle.image.proofs.Laws.Store.{length_part}
use Rattle.chains.specs.Aids.Tests.{aye, nay}
use Rattle.chains.proofs.Laws.Tests.{clash, not-true, not-false}
use Rattle.fields.specs.Fields.{name_of}
use Rattle.directory.specs.Slots.{PlainAt, standing_of, is_plain}
use Rattle.directory.specs.Search.{slot_named}
use Rattle.diskette.specs.Places.{slot_from}
use Rattle.directory.proofs.Laws.Slots.{plain_is}
use Rattle.directory.proofs.Laws.Search.{slot_named_answers}
use Rattle.slotcheck.specs.Aids.Slots.{bad_slot_by}
use Rattle.search.specs.Search.{is_found}
use Rattle.slotcheck.specs.Aids.Checksums.{checksum, NamesMet, NameTold, SlotTold}
use Rattle.slotcheck.proofs.Laws.Slots.{says_found, twice_other, twice_plain}

-- ---- the marks

pub none_met : (l : List ℕ) (way : ℕ → ℕ) → NamesMet l way 0 (replicate 256 false)
none_met l way = record {
  long = length-replicate {A = Bool} 256 false;
  marked = λ t h p. absurd (omega arith);
}

set_marked : (m : List Bool) (i : ℕ) → i < length m → (j : ℕ) → (j ≢ i → get_or m j false ≡ true) → get_or (set m i true) j false ≡ true
set_marked m i h j else = elim (ℕ_discrete j i) [
  | yes e ↦ rw e (get_or-set_same m i true false h)
  | no n ↦ get_or-set_other m i j true false n ∙ else n
]

module _ (l : List ℕ) (way : ℕ → ℕ) (s : ℕ) (m : List Bool) (met : NamesMet l way s m) where
  -- the marks after slot s, where its own file, if it is one, has its mark set
  met_more : (PlainAt l (way s) → get_or m (checksum (name_of l (way s))) false ≡ true) → NamesMet l way (s + 1) m
  met_more here = record {
    long = met.long;
    marked = λ t h p. elim (ℕ_discrete t s) [
      | yes e ↦ rw e (here (rw e at p))
      | no n ↦ met.marked t (omega arith) p
    ];
  }

  module _ (plain : Bool) (is : plain ≡ is_plain (standing_of l (way s))) where
    pub told_other : not plain ≡ true → NameTold l way s false m
    told_other x = let f = not-true plain x in record {
      is = twice_other l way s plain is f;
      met = met_more (λ p. absurd (clash ((plain_is l (way s)).1 p) (sym is ∙ f)));
    }

    module _ (x : not plain ≡ false) (long : (t : ℕ) → t < s + 1 → way t + 32 ≤ length l) (sum : ℕ) (sums : sum ≡ checksum (name_of l (way s))) (small : sum < 256) where
      -- no file below has the name: its mark would be set
      unmet : get_or m sum false ≡ false → is_found (slot_named l way s (name_of l (way s))) ≡ false
      unmet zeros =
          let name = name_of l (way s) in
          elim (says_found (λ t. (t < s) × (PlainAt l (way t) × (name_of l (way t) ≡ name))) (slot_named l way s name)
          (slot_named_answers l way s (λ t h. long t (omega arith)) name (length_part l (way s) 11 (omega (arith, long s (omega arith)))))) [
            | aye y f ↦ absurd (clash (met.marked f.0 f.1.0 f.1.1.0) (ap (λ (n : List ℕ). get_or m (checksum n) false) f.1.1.1 ∙ (rw (sums) at zeros)))
            | nay f n ↦ f
          ]

      pub told_new : get_or m sum false ≡ false → NameTold l way s false (set m sum true)
      told_new zeros = record {
        is = twice_plain l way s plain is (not-false plain x) (name_of l (way s)) refl (slot_named l way s (name_of l (way s))) refl false (sym (unmet zeros));
        met = record {
          long = length-set m sum true ∙ met.long;
          marked = λ t h p. set_marked m sum (omega (arith, met.long)) (checksum (name_of l (way t)))
              (λ other. elim (ℕ_discrete t s) [
                | yes e ↦ absurd (other (rw e (sym (sums))))
                | no n ↦ met.marked t (omega arith) p
              ]);
        };
      }

      pub told_met : get_or m sum false ≡ true → (name : List ℕ) → name ≡ name_of l (way s) → (f : Option ℕ) → f ≡ slot_named l way s name
          → (r : Bool) → r ≡ is_found f → NameTold l way s r m
      told_met marked name e f q r p = record {
        is = twice_plain l way s plain is (not-false plain x) name e f q r p;
        met = met_more (λ u. rw (← sums) marked);
      }

-- ---- a slot by the four tests

pub told_bad : (l : List ℕ) (way : ℕ → ℕ) (s : ℕ) (never label r : Bool) (m : List Bool) → r ≡ true → r ≡ bad_slot_by l way s never label → SlotTold l way s never label r m
told_bad l way s never label r m t e = record { is = e; met = λ f. absurd (clash t f) }

pub told_last : (l : List ℕ) (way : ℕ → ℕ) (s : ℕ) (never label r : Bool) (m : List Bool) → NameTold l way s r m → r ≡ bad_slot_by l way s never label → SlotTold l way s never label r m
told_last l way s never label r m told e = record { is = e; met = λ f. told.met }

-- ---- entries that stand one after the other lie in the image where the last does

pub row_within : (l : List ℕ) (root s : ℕ) → root + 32 * s + 32 ≤ length l → (t : ℕ) → t < s + 1 → slot_from root t + 32 ≤ length l
row_within l root s h t k = omega arith
