-- The table by its triples: an entry that is read and stored by its own two bytes is the one that the definitions read and store
-- by its word, and no third byte is touched.
use Rattle.std.specs.Prelude.{ℕ, ◌+◌, ◌*◌, ◌/◌, ◌%◌, ◌<◌, List, ◌≢◌, ◌≡◌, set}
use Rattle.std.proofs.Common.{arith, inl, inr, eq-eqb, ne_eqb}
use Rattle.std.proofs.Math.Bool.{true, false}
use Rattle.std.proofs.Math.ListN.{get_or}
use Rattle.image.specs.Bytes.{Bytes}
use Rattle.image.proofs.Laws.Numbers.{put_word}
use Rattle.values.specs.Bits.{taken, kept}
use Rattle.values.proofs.Laws.Bits.{kept_small}
use Rattle.values.proofs.Laws.Triples.{first_any_low, second_any_high, first_low, second_high}
use Rattle.table.specs.Entries.{word_at, entry_at, set_at}
use Rattle.table.specs.Aids.Triples.{triple_at, with_word}
use Rattle.table.proofs.Laws.OneCopy.{word_bytes, off_even, off_odd, set_at_outside}

-- ---- where an entry's word stands in its triple

pub word_even : (base n : ℕ) → n % 2 ≡ 0 → word_at base n ≡ triple_at base n
word_even base n e = omega (arith, off_even n e)

pub word_odd : (base n : ℕ) → n % 2 ≢ 0 → word_at base n ≡ triple_at base n + 1
word_odd base n e = omega (arith, off_odd n e)

-- the last entry of a sector full of them is even: its word ends with the sector, and the third byte of its triple lies behind it
pub full_sector : (base : ℕ) → (word_at base 340 + 2 ≡ base + 512) × (triple_at base 340 + 2 ≡ base + 512)
full_sector base = (omega arith, omega arith)

-- ---- what a write leaves: the third byte of the triple

module _ (base : ℕ) (l : List ℕ) (n v : ℕ) where
  pub even_leaves_high : n % 2 ≡ 0 → get_or (set_at base l n v) (triple_at base n + 2) 0 ≡ get_or l (triple_at base n + 2) 0
  even_leaves_high e = set_at_outside base l n v (triple_at base n + 2) (inr (omega (arith, off_even n e)))

  pub odd_leaves_low : n % 2 ≢ 0 → get_or (set_at base l n v) (triple_at base n) 0 ≡ get_or l (triple_at base n) 0
  odd_leaves_low e = set_at_outside base l n v (triple_at base n) (inl (omega (arith, off_odd n e)))

-- ---- in the form of the code's needs

module _ (base : ℕ) (l : List ℕ) (n r : ℕ) where
  pub read_even : n % 2 ≡ 0 → r ≡ taken true (get_or l (base + n * 3 / 2) 0 + 256 * get_or l (base + n * 3 / 2 + 1) 0) → r ≡ entry_at base l n
  unfolding entry_at
  read_even e p = rw (eq-eqb (n % 2) 0 e, word_bytes l (base + n * 3 / 2)) p

  pub read_odd : n % 2 ≢ 0 → r ≡ taken false (get_or l (base + n * 3 / 2) 0 + 256 * get_or l (base + n * 3 / 2 + 1) 0) → r ≡ entry_at base l n
  unfolding entry_at
  read_odd e p = rw (ne_eqb (n % 2) 0 e, word_bytes l (base + n * 3 / 2)) p

-- x and y are the two bytes stored
module _ (l : List ℕ) (at v x y : ℕ) (b : Bytes l) (small : v < 4096) where
  pub put_first : x ≡ v % 256 → y ≡ kept true (256 * get_or l (at + 1) 0) v / 256 → set (set l at x) (at + 1) y ≡ with_word true l at v
  unfolding with_word
  put_first p q =
      let w = 256 * get_or l (at + 1) 0 in
      let k : kept true w v < 65536 = kept_small true w v (omega (arith, b (at + 1))) small in
      rw (p, q, first_low w v, word_bytes l at, first_any_low (get_or l at 0) (get_or l (at + 1) 0) v (b at)) (put_word l at (kept true w v) k)

  pub put_second : x ≡ kept false (get_or l at 0) v % 256 → y ≡ v / 16 → set (set l at x) (at + 1) y ≡ with_word false l at v
  unfolding with_word
  put_second p q =
      let w = get_or l at 0 in
      let k : kept false w v < 65536 = kept_small false w v (omega (arith, b at)) small in
      rw (p, q, second_high w v, word_bytes l at, second_any_high w (get_or l (at + 1) 0) v) (put_word l at (kept false w v) k)

module _ (base : ℕ) (l : List ℕ) (n v : ℕ) (m : List ℕ) where
  pub set_even : n % 2 ≡ 0 → m ≡ with_word true l (base + n * 3 / 2) v → m ≡ set_at base l n v
  unfolding set_at with_word
  set_even e p = rw (eq-eqb (n % 2) 0 e) p

  pub set_odd : n % 2 ≢ 0 → m ≡ with_word false l (base + n * 3 / 2) v → m ≡ set_at base l n v
  unfolding set_at with_word
  set_odd e p = rw (ne_eqb (n % 2) 0 e) p
