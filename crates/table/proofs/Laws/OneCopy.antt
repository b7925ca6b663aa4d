-- One copy of the table, that starts at byte base: read after write, and what a write leaves.
use Rattle.std.specs.Prelude.{ℕ, ◌+◌, ◌*◌, ◌/◌, ◌%◌, ◌≤◌, ◌<◌, List, ◌≢◌, ◌≡◌, length}
use native.Mathlib.Omega.{arith}
use Rattle.std.proofs.Math.Decide.{ℕ_discrete, dec_lt}
use Rattle.std.proofs.Math.Bool.{true, false}
use Rattle.std.proofs.Common.{inl, inr, ◌∙◌}
use Rattle.std.proofs.Math.Path.{ap}
use Rattle.std.proofs.Math.ListN.{get_or}
use borrow.Author.Tests.{eq-eqb, ne_eqb}
use Rattle.image.specs.Bytes.{Bytes}
use Rattle.image.specs.Store.{stored, part}
use Rattle.image.specs.Aids.Ranges.{Outside, Apart}
use Rattle.image.specs.Numbers.{number, digits}
use Rattle.image.proofs.Laws.Store.{length_stored, bytes_stored, stored_outside, stored_inside, part_apart}
use Rattle.image.proofs.Laws.Numbers.{length_digits, bytes_digits, number_small, number_stored, number_apart}
use Rattle.values.specs.Bits.{even, taken, kept}
use Rattle.values.proofs.Laws.Bits.{taken_small, kept_small, taken_kept}
use Rattle.values.proofs.Laws.Triples.{taken_after, taken_before}
use Rattle.table.specs.Entries.{word_at, entry_at, set_at}

-- ---- a word

pub word_bytes : (l : List ℕ) (at : ℕ) → number l at 2 ≡ get_or l at 0 + 256 * get_or l (at + 1) 0
unfolding number
word_bytes l at = omega arith

word_small : (l : List ℕ) (at : ℕ) → Bytes l → number l at 2 < 65536
word_small l at b = number_small l at 2 b

-- ---- an entry

pub entry_small : (base : ℕ) (l : List ℕ) (n : ℕ) → Bytes l → entry_at base l n < 4096
unfolding entry_at
entry_small base l n b = taken_small (even n) _ (word_small l (word_at base n) b)

-- an entry is a function of its word
pub entry_same : (base base' : ℕ) (l l' : List ℕ) (n : ℕ) → number l (word_at base n) 2 ≡ number l' (word_at base' n) 2 → entry_at base l n ≡ entry_at base' l' n
unfolding entry_at
entry_same base base' l l' n e = ap (taken (even n)) e

-- a store elsewhere leaves it
pub entry_apart : (base : ℕ) (l : List ℕ) (at : ℕ) (s : List ℕ) (n : ℕ) → Apart at (length s) (word_at base n) 2 → entry_at base (stored l at s) n ≡ entry_at base l n
entry_apart base l at s n p = entry_same base base (stored l at s) l n (number_apart l at s (word_at base n) 2 p)

-- ---- where an entry stands, by its half: with these `omega` compares the places of two entries

pub off_even : (n : ℕ) → n % 2 ≡ 0 → n * 3 / 2 ≡ n / 2 * 3
off_even n e = omega arith

pub off_odd : (n : ℕ) → n % 2 ≢ 0 → n * 3 / 2 ≡ n / 2 * 3 + 1
off_odd n e = omega arith

even_next : (n : ℕ) → n % 2 ≡ 0 → (n + 1) % 2 ≢ 0
even_next n e = let q : (n + 1) / 2 ≡ n / 2 = omega arith in omega arith

odd_prior : (m n : ℕ) → n ≡ m + 1 → n % 2 ≢ 0 → m % 2 ≡ 0
odd_prior m n p e = let q : m / 2 ≡ n / 2 = omega arith in omega arith

-- ---- a write

module _ (base : ℕ) (l : List ℕ) (n v : ℕ) where
  pub length_set_at : length (set_at base l n v) ≡ length l
  unfolding set_at
  length_set_at = length_stored l _ _

  pub bytes_set_at : Bytes l → Bytes (set_at base l n v)
  unfolding set_at
  bytes_set_at b = bytes_stored l _ _ b (bytes_digits _ 2)

  -- a byte outside the entry's word
  pub set_at_outside : (j : ℕ) → Outside (word_at base n) 2 j → get_or (set_at base l n v) j 0 ≡ get_or l j 0
  unfolding set_at
  set_at_outside j o = stored_outside l _ _ j (rw (length_digits (kept (even n) (number l (word_at base n) 2) v) 2) o)

  pub number_set_at : (b w : ℕ) → Apart (word_at base n) 2 b w → number (set_at base l n v) b w ≡ number l b w
  unfolding set_at
  number_set_at b w p = number_apart l _ _ b w (rw (length_digits (kept (even n) (number l (word_at base n) 2) v) 2) p)

  pub part_set_at : (b w : ℕ) → b + w ≤ length l → Apart (word_at base n) 2 b w → part (set_at base l n v) b w ≡ part l b w
  unfolding set_at
  part_set_at b w f p = part_apart l _ _ b w f (rw (length_digits (kept (even n) (number l (word_at base n) 2) v) 2) p)

  module _ (fits : word_at base n + 2 ≤ length l) where
    -- the bytes of the entry's word
    pub set_at_inside : (i : ℕ) → i < 2 → get_or (set_at base l n v) (word_at base n + i) 0 ≡ get_or (digits (kept (even n) (number l (word_at base n) 2) v) 2) i 0
    unfolding set_at
    set_at_inside i h =
        let d = length_digits (kept (even n) (number l (word_at base n) 2) v) 2 in
        stored_inside l (word_at base n) _ i (rw d h) (rw d fits)

    set_at_first : get_or (set_at base l n v) (word_at base n) 0 ≡ kept (even n) (number l (word_at base n) 2) v % 256
    unfolding digits
    set_at_first = let e : word_at base n + 0 ≡ word_at base n = omega arith in rw e at (set_at_inside 0 (omega arith))

    set_at_second : get_or (set_at base l n v) (word_at base n + 1) 0 ≡ kept (even n) (number l (word_at base n) 2) v / 256 % 256
    unfolding digits
    set_at_second = set_at_inside 1 (omega arith)

module _ (base : ℕ) (l : List ℕ) (n v : ℕ) (b : Bytes l) (small : v < 4096) (fits : word_at base n + 2 ≤ length l) where
  pub set_at_same : entry_at base (set_at base l n v) n ≡ v
  unfolding entry_at set_at
  set_at_same =
      let w = number l (word_at base n) 2 in
      let k : kept (even n) w v < 65536 = kept_small (even n) w v (word_small l (word_at base n) b) small in
      ap (taken (even n)) (number_stored l (word_at base n) (kept (even n) w v) 2 k fits) ∙ taken_kept (even n) w v small

  -- the entry after an even one
  set_at_next : n % 2 ≡ 0 → entry_at base (set_at base l n v) (n + 1) ≡ entry_at base l (n + 1)
  unfolding entry_at
  set_at_next e =
      let m = set_at base l n v in
      let j : word_at base (n + 1) ≡ word_at base n + 1 = omega (arith, off_even n e) in
      let first : get_or m (word_at base n + 1) 0 ≡ kept true (get_or l (word_at base n) 0 + 256 * get_or l (word_at base n + 1) 0) v / 256 % 256 = rw (eq-eqb (n % 2) 0 e, word_bytes l (word_at base n)) at (set_at_second base l n v fits) in
      let last : get_or m (word_at base n + 1 + 1) 0 ≡ get_or l (word_at base n + 1 + 1) 0 = set_at_outside base l n v (word_at base n + 1 + 1) (inr (omega arith)) in
      rw (j, ne_eqb ((n + 1) % 2) 0 (even_next n e), word_bytes m (word_at base n + 1), word_bytes l (word_at base n + 1), first, last)
      (taken_after _ _ _ v (b (word_at base n)) (b (word_at base n + 1)) small)

  -- the entry before an odd one
  set_at_prior : (m : ℕ) → n ≡ m + 1 → n % 2 ≢ 0 → entry_at base (set_at base l n v) m ≡ entry_at base l m
  unfolding entry_at
  set_at_prior m p e =
      let t = set_at base l n v in
      let j : word_at base m + 1 ≡ word_at base n = omega (arith, off_odd n e) in
      let first : get_or t (word_at base m) 0 ≡ get_or l (word_at base m) 0 = set_at_outside base l n v (word_at base m) (inl (omega arith)) in
      let last : get_or t (word_at base n) 0 ≡ kept false (get_or l (word_at base n) 0 + 256 * get_or l (word_at base n + 1) 0) v % 256 = rw (ne_eqb (n % 2) 0 e, word_bytes l (word_at base n)) at (set_at_first base l n v fits) in
      rw (eq-eqb (m % 2) 0 (odd_prior m n p e), word_bytes t (word_at base m), word_bytes l (word_at base m), j, first, last)
      (taken_before _ _ _ v (b (word_at base m)))

  pub set_at_other : (m : ℕ) → m ≢ n → entry_at base (set_at base l n v) m ≡ entry_at base l m
  set_at_other m d = elim (dec_lt m n) [ yes p ↦ below p | no p ↦ above (omega arith) ]
    where
      far : Apart (word_at base n) 2 (word_at base m) 2 → entry_at base (set_at base l n v) m ≡ entry_at base l m
      far p = entry_same base base (set_at base l n v) l m (number_set_at base l n v (word_at base m) 2 p)

      below : m < n → entry_at base (set_at base l n v) m ≡ entry_at base l m
      below p =
          elim (ℕ_discrete (n % 2) 0) [
            | yes e ↦ far (inr (omega (arith, off_even n e)))
            | no e ↦ elim (ℕ_discrete n (m + 1)) [ yes q ↦ set_at_prior m q e | no q ↦ far (inr (omega (arith, off_odd n e))) ]
          ]

      above : n < m → entry_at base (set_at base l n v) m ≡ entry_at base l m
      above p =
          elim (ℕ_discrete (n % 2) 0) [
            | no e ↦ far (inl (omega (arith, off_odd n e)))
            | yes e ↦ elim (ℕ_discrete m (n + 1)) [ yes q ↦ rw q (set_at_next e) | no q ↦ far (inl (omega (arith, off_even n e))) ]
          ]
