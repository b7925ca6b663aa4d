-- Both copies of the table: what a write in both gives, and what it leaves.
use Prim.Native.Nat.{ℕ, ◌+◌, ◌-◌, ◌*◌, ◌/◌, ◌≤◌, ◌<◌}
use Rattle.std.proofs.Common.{arith, inl, inr, sym, ◌∙◌}
use Rattle.std.proofs.Math.Decide.{dec_lt}
use mathlib.Core.List.{List}
use Rattle.std.specs.Prelude.{◌≢◌, ◌≡◌, length, get_or}
use Rattle.image.specs.Bytes.{Bytes}
use Rattle.image.specs.Aids.Ranges.{Outside}
use Rattle.image.specs.Numbers.{number}
use Rattle.image.proofs.Laws.Numbers.{number_same}
use Rattle.table.specs.Entries.{word_at, entry_at, entry_of, set_at, set_both}
use Rattle.table.specs.Aids.Copies.{Reaches, Agree}
use Rattle.table.proofs.Laws.OneCopy.{entry_same, length_set_at, bytes_set_at, set_at_outside, set_at_inside, number_set_at, set_at_same, set_at_other}

-- ---- which entries both copies hold

pub reaches_below : (second : ℕ) (l : List ℕ) (m n : ℕ) → m ≤ n → Reaches second l n → Reaches second l m
reaches_below second l m n h r = record { low = omega arith; high = omega arith }

-- ---- what a write leaves

-- the code's two stores, one after the other
pub both_stored : (second : ℕ) (l : List ℕ) (n v : ℕ) (m : List ℕ) → m ≡ set_at 512 l n v → (r : List ℕ) → r ≡ set_at second m n v → r ≡ set_both second l n v
unfolding set_both
both_stored second l n v m e r q = q ∙ rw e

module _ (second : ℕ) (l : List ℕ) (n v : ℕ) where
  pub length_set_both : length (set_both second l n v) ≡ length l
  unfolding set_both
  length_set_both = length_set_at second (set_at 512 l n v) n v ∙ length_set_at 512 l n v

  pub bytes_set_both : Bytes l → Bytes (set_both second l n v)
  unfolding set_both
  bytes_set_both b = bytes_set_at second (set_at 512 l n v) n v (bytes_set_at 512 l n v b)

  pub reaches_set_both : (m : ℕ) → Reaches second l m → Reaches second (set_both second l n v) m
  reaches_set_both m r = record { low = r.low; high = rw length_set_both r.high }

  -- every byte, number and part outside the two words
  pub set_both_outside : (j : ℕ) → Outside (word_at 512 n) 2 j → Outside (word_at second n) 2 j → get_or (set_both second l n v) j 0 ≡ get_or l j 0
  unfolding set_both
  set_both_outside j p q = set_at_outside second (set_at 512 l n v) n v j q ∙ set_at_outside 512 l n v j p

  module _ (r : Reaches second l n) where
    -- the kind byte and the two FF after it, in each copy
    module _ (cluster : 2 ≤ n) (i : ℕ) (h : i < 3) where
      pub head_kept : get_or (set_both second l n v) (512 + i) 0 ≡ get_or l (512 + i) 0
      head_kept = set_both_outside (512 + i) (inl (omega arith)) (inl (omega arith))

      pub head_kept_second : get_or (set_both second l n v) (second + i) 0 ≡ get_or l (second + i) 0
      head_kept_second = set_both_outside (second + i) (inr (omega arith)) (inl (omega arith))

-- ---- what it gives

module _ (second : ℕ) (l : List ℕ) (n v : ℕ) (r : Reaches second l n) where
  fits : word_at 512 n + 2 ≤ length l
  fits = omega arith

  fits_second : word_at second n + 2 ≤ length (set_at 512 l n v)
  fits_second = rw (length_set_at 512 l n v) r.high

  -- a write in one copy leaves the other's entries
  second_leaves : (m : ℕ) → word_at 512 m + 2 ≤ second → entry_of (set_both second l n v) m ≡ entry_of (set_at 512 l n v) m
  unfolding set_both
  second_leaves m h = entry_same 512 512 _ (set_at 512 l n v) m (number_set_at second (set_at 512 l n v) n v (word_at 512 m) 2 (inr (omega arith)))

  first_leaves : (m : ℕ) → entry_at second (set_at 512 l n v) m ≡ entry_at second l m
  first_leaves m = entry_same second second _ l m (number_set_at 512 l n v (word_at second m) 2 (inl (omega arith)))

  module _ (b : Bytes l) (small : v < 4096) where
    pub set_both_same : entry_of (set_both second l n v) n ≡ v
    set_both_same = second_leaves n r.low ∙ set_at_same 512 l n v b small fits

    pub set_both_other : (m : ℕ) → word_at 512 m + 2 ≤ second → m ≢ n → entry_of (set_both second l n v) m ≡ entry_of l m
    set_both_other m h d = second_leaves m h ∙ set_at_other 512 l n v b small fits m d

    pub second_same : entry_at second (set_both second l n v) n ≡ v
    unfolding set_both
    second_same = set_at_same second (set_at 512 l n v) n v (bytes_set_at 512 l n v b) small fits_second

    pub second_other : (m : ℕ) → m ≢ n → entry_at second (set_both second l n v) m ≡ entry_at second l m
    unfolding set_both
    second_other m d = set_at_other second (set_at 512 l n v) n v (bytes_set_at 512 l n v b) small fits_second m d ∙ first_leaves m

  -- copies that agreed agree after
  pub agree_set_both : (size : ℕ) → 512 + size ≤ second → n * 3 / 2 + 2 ≤ size → Agree second size l → Agree second size (set_both second l n v)
  unfolding set_both
  agree_set_both size s h g j k = elim (dec_lt j (n * 3 / 2)) [
    | yes p ↦ away (inl p)
    | no p ↦ elim (dec_lt j (n * 3 / 2 + 2)) [ yes q ↦ inside (omega arith) q | no q ↦ away (inr (omega arith)) ]
  ]
    where
      one : List ℕ
      one = set_at 512 l n v

      both : List ℕ
      both = set_at second one n v

      low : get_or both (512 + j) 0 ≡ get_or one (512 + j) 0
      low = set_at_outside second one n v (512 + j) (inl (omega arith))

      high : get_or one (second + j) 0 ≡ get_or l (second + j) 0
      high = set_at_outside 512 l n v (second + j) (inr (omega arith))

      away : Outside (n * 3 / 2) 2 j → get_or both (512 + j) 0 ≡ get_or both (second + j) 0
      away (inl p) = low ∙ set_at_outside 512 l n v (512 + j) (inl (omega arith)) ∙ g j k ∙ sym (set_at_outside second one n v (second + j) (inl (omega arith)) ∙ high)
      away (inr p) = low ∙ set_at_outside 512 l n v (512 + j) (inr (omega arith)) ∙ g j k ∙ sym (set_at_outside second one n v (second + j) (inr (omega arith)) ∙ high)

      -- the same word is stored in both
      words : number one (word_at second n) 2 ≡ number l (word_at 512 n) 2
      words =
          number_set_at 512 l n v (word_at second n) 2 (inl (omega arith))
          ∙ number_same l l (word_at second n) (word_at 512 n) 2 (λ i t. sym (word i t (g (n * 3 / 2 + i) (omega arith))))
        where
          word : (i : ℕ) → i < 2 → get_or l (512 + (n * 3 / 2 + i)) 0 ≡ get_or l (second + (n * 3 / 2 + i)) 0 → get_or l (word_at 512 n + i) 0 ≡ get_or l (word_at second n + i) 0
          word i t e =
              let x : 512 + (n * 3 / 2 + i) ≡ word_at 512 n + i = omega arith in
              let y : second + (n * 3 / 2 + i) ≡ word_at second n + i = omega arith in
              rw (x, y) at e

      inside : n * 3 / 2 ≤ j → j < n * 3 / 2 + 2 → get_or both (512 + j) 0 ≡ get_or both (second + j) 0
      inside p q =
          let x : word_at 512 n + (j - n * 3 / 2) ≡ 512 + j = omega arith in
          let y : word_at second n + (j - n * 3 / 2) ≡ second + j = omega arith in
          low
          ∙ (rw x at (set_at_inside 512 l n v fits (j - n * 3 / 2) (omega arith)))
          ∙ sym (rw (y, words) at (set_at_inside second one n v fits_second (j - n * 3 / 2) (omega arith)))
