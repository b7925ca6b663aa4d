-- Seek on one record: each way out, and that only one answer and one record fit.
use Rattle.std.specs.Prelude.{ℕ, ◌≤◌, ◌<◌, ◌≡◌, refl, ℤ, Option, Some, None, Ok, Err, ok_or}
use Rattle.std.proofs.Common.{arith, sym, ◌∙◌, SFits, to_z, of_z, to_z-of_z}
use Rattle.std.specs.Int.{w32}
use borrow.Author.Tests.{lt-ltb, le-ltb}
use Rattle.offset.specs.Offset.{moved_by}
use Rattle.calls.specs.declared.refusal.Refusal.{Refusal}
use Rattle.calls.specs.declared.refusal.Refusal.TheVariants.{InvalidFunction}
use Rattle.calls.specs.Answers.{Answer}
use Rattle.records.specs.declared.OpenRecord.{OpenRecord}
use Rattle.seeking.specs.declared.seek.Method.{Method}
use Rattle.seeking.specs.declared.seek.Method.TheVariants.{Start, Pointer, Size}
use Rattle.seeking.specs.Aids.Seek.{number_of}
use Rattle.seeking.specs.Seek.{answer_of}
use Rattle.records.specs.Seek.{base_from, seek_from, moved_to, sought_record, SeeksIn}

pub seeks_in_only : {r after after' : OpenRecord} {size method : ℕ} {offset : ℤ} {a a' : Answer} → SeeksIn r size method offset a after → SeeksIn r size method offset a' after' → (a ≡ a') × (after ≡ after')
seeks_in_only x y = (x.answers ∙ sym y.answers, x.leaves ∙ sym y.leaves)

-- ---- from where the offset counts

module _ (pointer size : ℕ) (m : Method) where
  pub base_zero : m ≡ Start → 0 ≡ base_from pointer size (number_of m)
  unfolding base_from
  base_zero e = rw e

  pub base_pointer : m ≡ Pointer → pointer ≡ base_from pointer size (number_of m)
  unfolding base_from
  base_pointer e = rw e

  pub base_size : m ≡ Size → size ≡ base_from pointer size (number_of m)
  unfolding base_from
  base_size e = rw e

-- ---- what is answered

most : (m : Method) → number_of m ≤ 2
most Start = omega arith
most Pointer = omega arith
most Size = omega arith

wanted : (w : Option ℕ) → ok_or w InvalidFunction ≡ answer_of w
wanted (Some v) = refl
wanted None = refl

module _ (pointer size method : ℕ) (offset : ℤ) (a : Answer) where
  abbrev Answered : Type 0
  Answered = a ≡ answer_of (seek_from pointer size method offset)

  pub sought_method : (e : Refusal) → e ≡ InvalidFunction → 2 < method → a ≡ Err e → Answered
  unfolding seek_from
  sought_method e q h x = rw (x, q, lt-ltb 2 method h)

  pub sought_by : (m : Method) → number_of m ≡ method → (base : ℕ) → base ≡ base_from pointer size (number_of m)
      → SFits w32 offset → (w : Option ℕ) → w ≡ moved_by base (to_z w32 (of_z w32 offset)) → a ≡ ok_or w InvalidFunction → Answered
  unfolding seek_from
  sought_by m asked base from fits w moved x = rw (x, wanted w, moved, to_z-of_z {w = w32} fits, from, ← asked, le-ltb 2 (number_of m) (most m))

-- ---- the record after it, by the answer

pub after_well : (r : OpenRecord) (m : Option ℕ) (v : ℕ) → Ok v ≡ answer_of m → moved_to r v ≡ sought_record r m
after_well r (Some x) v h = let e : v ≡ x = cc in rw e
after_well r None v h = absurd (let z : ◌≡◌ {A = ℕ} 0 1 = cc in omega arith)

pub after_refused : (r : OpenRecord) (m : Option ℕ) (n : Refusal) → Err n ≡ answer_of m → r ≡ sought_record r m
after_refused r (Some x) n h = absurd (let z : ◌≡◌ {A = ℕ} 0 1 = cc in omega arith)
after_refused r None n h = refl
