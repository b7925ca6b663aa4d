-- Bytes and table values of a torn disk: where both images have the same, so has the disk.
use Rattle.std.specs.Prelude.{ℕ, ◌+◌, ◌*◌, ◌/◌, ◌%◌, ◌<◌, Bool, true, false, ◌&&◌, List, ◌⊎◌, ◌≡◌, refl, get_or}
use Rattle.std.proofs.Common.{arith, inl, inr, sym, ◌∙◌}
use Rattle.std.proofs.Math.Path.{ap}
use Rattle.std.proofs.Math.Dec.{leb}
use Rattle.image.specs.Bytes.{Bytes}
use Rattle.image.specs.Numbers.{number}
use Rattle.chains.proofs.Laws.Tests.{by_test}
use Rattle.values.specs.Bits.{even, taken}
use Rattle.table.specs.Entries.{word_at, entry_at, entry_of, table_of}
use Rattle.reset.specs.Torn.{sector_bytes, Torn}

-- ---- the twelve bits of two bytes

number_two : (l : List ℕ) (a : ℕ) → number l a 2 ≡ get_or l a 0 + 256 * get_or l (a + 1) 0
unfolding number
number_two l a = omega arith

low_bits : (x y : ℕ) → x < 256 → (x + 256 * y) % 4096 ≡ x + 256 * (y % 16)
low_bits x y h = let q : (x + 256 * y) / 4096 ≡ y / 16 = omega arith in omega arith

high_bits : (x y : ℕ) → x < 256 → (x + 256 * y) / 16 ≡ x / 16 + 16 * y
high_bits x y h = omega arith

-- x and y are the two bytes of the one image, v and w those of the other. Where they have the same twelve bits, so has one
-- byte of each.
bits_same : (e : Bool) (x y v w : ℕ) → x < 256 → v < 256 → taken e (x + 256 * y) ≡ taken e (v + 256 * w)
    → (taken e (x + 256 * w) ≡ taken e (x + 256 * y)) × (taken e (v + 256 * y) ≡ taken e (x + 256 * y))
unfolding taken
bits_same true x y v w a b h =
    let z : x + 256 * (y % 16) ≡ v + 256 * (w % 16) = sym (low_bits x y a) ∙ h ∙ low_bits v w b in
    let r : y % 16 ≡ w % 16 = omega arith in
    let s : x ≡ v = omega arith in
    (low_bits x w a ∙ omega arith ∙ sym (low_bits x y a), low_bits v y b ∙ omega arith ∙ sym (low_bits x y a))
bits_same false x y v w a b h =
    let z : x / 16 + 16 * y ≡ v / 16 + 16 * w = sym (high_bits x y a) ∙ h ∙ high_bits v w b in
    let i : x / 16 < 16 = omega arith in
    let j : v / 16 < 16 = omega arith in
    let r : y ≡ w = omega arith in
    let s : x / 16 ≡ v / 16 = omega arith in
    (high_bits x w a ∙ omega arith ∙ sym (high_bits x y a), high_bits v y b ∙ omega arith ∙ sym (high_bits x y a))

module _ (old new m : List ℕ) (t : Torn old new m) where
  byte_either : (q : ℕ) → (get_or m q 0 ≡ get_or old q 0) ⊎ (get_or m q 0 ≡ get_or new q 0)
  byte_either q = elim (t.sectors (q / sector_bytes)) [ inl h ↦ inl (h q refl) | inr h ↦ inr (h q refl) ]

  pub byte_kept : (q : ℕ) → get_or new q 0 ≡ get_or old q 0 → get_or m q 0 ≡ get_or old q 0
  byte_kept q e = elim (byte_either q) [ inl h ↦ h | inr h ↦ h ∙ e ]

  -- ---- an entry of the table: its two bytes may stand in two sectors, and a neighbour has four of their bits

  module _ (bo : Bytes old) (bn : Bytes new) (c : ℕ) where
    abbrev bits_in : List ℕ → ℕ
    bits_in l = taken (even c) (get_or l (word_at 512 c) 0 + 256 * get_or l (word_at 512 c + 1) 0)

    entry_is : (l : List ℕ) → entry_of l c ≡ bits_in l
    unfolding entry_at
    entry_is l = ap (taken (even c)) (number_two l (word_at 512 c))

    entry_kept : entry_of new c ≡ entry_of old c → entry_of m c ≡ entry_of old c
    entry_kept e =
        let p = word_at 512 c in
        let h : bits_in old ≡ bits_in new = sym (entry_is old) ∙ sym e ∙ entry_is new in
        let b = bits_same (even c) (get_or old p 0) (get_or old (p + 1) 0) (get_or new p 0) (get_or new (p + 1) 0) (bo p) (bn p) h in
        entry_is m ∙ elim (byte_either p) [
          | inl x ↦ elim (byte_either (p + 1)) [ inl y ↦ rw (x, y) refl | inr y ↦ rw (x, y) b.0 ]
          | inr x ↦ elim (byte_either (p + 1)) [ inl y ↦ rw (x, y) b.1 | inr y ↦ rw (x, y) (sym h) ]
        ] ∙ sym (entry_is old)

  pub value_kept : Bytes old → Bytes new → (last c : ℕ) → table_of last new c ≡ table_of last old c → table_of last m c ≡ table_of last old c
  unfolding table_of
  value_kept bo bn last c e = by_test (leb 2 c && leb c last) (λ h. rw h (entry_kept bo bn c (rw h at e))) (λ h. rw h refl)
