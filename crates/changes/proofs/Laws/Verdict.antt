-- What check answers of a sound volume, and how many files it counts.
use Rattle.std.specs.Prelude.{ℕ, zero, suc, ◌+◌, ◌-◌, ◌≤◌, ◌<◌, Bool, List, ◌≡◌, Option, Ok}
use Rattle.std.proofs.Common.{arith, inr, sym, ap, ◌∙◌, subst}
use Rattle.std.proofs.Math.Decide.{dec_lt}
use Rattle.std.proofs.Math.Bool.{true, false}
use Rattle.std.proofs.Math.Path.{refl}
use Rattle.chains.specs.Sums.{tally, bit}
use Rattle.diskette.specs.Places.{root_entries, slot_at}
use Rattle.diskette.specs.declared.Kind.{Kind}
use Rattle.directory.specs.Slots.{standing_of, is_plain}
use Rattle.directory.proofs.Laws.Slots.{plain_is}
use Rattle.sound.specs.Answer.{AnswersBy}
use Rattle.sound.specs.Counts.{is_file, file_count, counts_of}
use Rattle.sound.specs.Files.{IsFile, AreChains}
use Rattle.sound.specs.Judged.{check_of}
use Rattle.sound.proofs.Laws.OneAnswer.{checked_is}
use Rattle.sound.proofs.Laws.Sound.{sound_exactly}
use Rattle.calls.specs.Aids.Ready.{OnVolume}
use Rattle.calls.proofs.Laws.Ready.{on_usable}
use Rattle.changes.proofs.Laws.Changed.{on_sound}

-- lists are any that are the files' chains
pub sound_verdict : (k : Kind) (l : List ℕ) → OnVolume l k → (lists : ℕ → List ℕ) → AreChains k l lists → check_of l ≡ Ok (counts_of k l lists)
sound_verdict k l v lists p =
    let n = (sound_exactly k (on_usable l k v) l).0 (on_sound k l v) in
    sym (checked_is (record {
      is = subst (λ (w : Option Kind). AnswersBy w l (Ok (counts_of k l lists))) (sym v.known)
          (inr (n.tables, inr (n.values, inr (n.slots, inr (n.chains, inr (n.two, inr (n.lost, (lists, p, refl))))))));
    }))

-- ---- a count of the first numbers

count_none : (p : ℕ → Bool) (m c : ℕ) → ((i : ℕ) → c ≤ i → i < c + m → p i ≡ false) → tally p m c ≡ 0
unfolding tally
count_none p zero c h = refl
count_none p (suc m) c h = omega (arith, ap bit (h c (omega arith) (omega arith)), count_none p m (suc c) (λ i a b. h i (omega arith) (omega arith)))

count_first : (p : ℕ → Bool) (n m c : ℕ) → c ≤ n → n ≤ c + m → ((i : ℕ) → i < n → p i ≡ true) → ((i : ℕ) → n ≤ i → i < c + m → p i ≡ false) → tally p m c ≡ n - c
unfolding tally
count_first p n zero c a b yes_below no_from = omega arith
count_first p n (suc m) c a b yes_below no_from = elim (dec_lt c n) [
  | yes h ↦ omega (arith, ap bit (yes_below c h), count_first p n m (suc c) (omega arith) (omega arith) yes_below (λ i x y. no_from i x (omega arith)))
  | no h ↦ omega (arith, ap bit (no_from c (omega arith) (omega arith)), count_none p m (suc c) (λ i x y. no_from i (omega arith) (omega arith)))
]

-- files in the slots below n alone
module _ (k : Kind) (l : List ℕ) where
  is_slot : (s : ℕ) → IsFile k l s → is_file k l s ≡ true
  unfolding is_file
  is_slot s i = (plain_is l (slot_at k s)).1 i.plain

  no_slot : (s : ℕ) → s < root_entries k → ¬ IsFile k l s → is_file k l s ≡ false
  unfolding is_file
  no_slot s h n = by (is_plain (standing_of l (slot_at k s))) refl
    where
      by : (b : Bool) → is_plain (standing_of l (slot_at k s)) ≡ b → b ≡ false
      by true e = absurd (n (record { below = h; plain = (plain_is l (slot_at k s)).0 e }))
      by false e = refl

  pub first_count : (n : ℕ) → n ≤ root_entries k → ((s : ℕ) → s < n → IsFile k l s) → ((s : ℕ) → n ≤ s → ¬ IsFile k l s) → file_count k l ≡ n
  first_count n h files others =
      count_first (is_file k l) n (root_entries k) 0 (omega arith) (omega arith) (λ i x. is_slot i (files i x)) (λ i x y. no_slot i (omega arith) (others i x)) ∙ zero_less n
    where
      zero_less : (m : ℕ) → m - 0 ≡ m
      zero_less m = omega arith
