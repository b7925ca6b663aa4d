-- The blank volume of a kind: of that kind, both copies alike, every cluster free, every slot never used.
use Rattle.std.specs.Prelude.{ℕ, zero, suc, ◌+◌, ◌-◌, ◌*◌, ◌/◌, ◌≤◌, ◌<◌, Bool, true, false, List, ◌≡◌, length, replicate, Some}
use native.Mathlib.Omega.{arith}
use Rattle.std.proofs.Math.Decide.{dec_le, dec_lt}
use Rattle.std.proofs.Common.{inl, inr, sym, ◌∙◌, length-append, get_or-append-add}
use Rattle.std.proofs.Math.ListN.{get_or, get_or-append, get_or-eq_default}
use Rattle.std.proofs.lemmas.List.{length-replicate, get_or-replicate}
use Rattle.image.specs.Bytes.{Bytes}
use Rattle.image.specs.Store.{stored}
use Rattle.image.specs.Aids.Ranges.{Outside}
use Rattle.image.specs.Numbers.{number}
use Rattle.image.proofs.Laws.Store.{length_stored, bytes_stored, stored_outside, stored_inside}
use Rattle.diskette.specs.Images.{OfKind, kind_of_image}
use Rattle.diskette.specs.Kinds.{named}
use Rattle.diskette.specs.Aids.Usable.{Usable}
use Rattle.diskette.specs.Places.{first_data, last_cluster, root_entries, copy_two, slot_at}
use Rattle.diskette.proofs.Laws.Images.{image_of_kind}
use Rattle.diskette.proofs.Laws.Places.{entry_within}
use Rattle.diskette.specs.declared.Kind.{Kind}
use Rattle.values.specs.Bits.{taken, even}
use Rattle.table.specs.Entries.{word_at, entry_at, entry_of, table_of}
use Rattle.table.specs.Aids.Copies.{Agree}
use Rattle.table.proofs.Laws.View.{table_inside, table_outside}
use Rattle.directory.specs.Slots.{NeverUsedAt}
use Rattle.formatting.specs.Format.{zeros_and_data, table_head, blank}
use Rattle.formatting.proofs.Laws.Format.{above_bytes}

-- ---- zeros and data

module _ (k : Kind) where
  abbrev zeros : List ℕ
  zeros = replicate (512 * first_data k) 0

  abbrev filler : List ℕ
  filler = replicate (512 * k.sectors - 512 * first_data k) 0xF6

  zeros_long : length zeros ≡ 512 * first_data k
  zeros_long = length-replicate (512 * first_data k) 0

  ground_zero : (j : ℕ) → j < 512 * first_data k → get_or (zeros_and_data k) j 0 ≡ 0
  ground_zero j h = get_or-append zeros filler 0 j (omega (arith, zeros_long)) ∙ get_or-replicate (512 * first_data k) j 0 0 h

  ground_data : (j : ℕ) → 512 * first_data k ≤ j → j < 512 * k.sectors → get_or (zeros_and_data k) j 0 ≡ 0xF6
  ground_data j g h =
      let e : length zeros + (j - 512 * first_data k) ≡ j = omega (arith, zeros_long) in
      (rw e at (get_or-append-add zeros filler (j - 512 * first_data k) 0)) ∙ get_or-replicate (512 * k.sectors - 512 * first_data k) (j - 512 * first_data k) 0xF6 0 (omega arith)

  ground_length : first_data k ≤ k.sectors → length (zeros_and_data k) ≡ 512 * k.sectors
  ground_length h =
      let m : length filler ≡ 512 * k.sectors - 512 * first_data k = length-replicate (512 * k.sectors - 512 * first_data k) 0xF6 in
      omega (arith, length-append zeros filler, zeros_long)

  bytes_ground : first_data k ≤ k.sectors → Bytes (zeros_and_data k)
  bytes_ground h j = elim (dec_lt j (512 * first_data k)) [
    | yes p ↦ omega (arith, ground_zero j p)
    | no p ↦ elim (dec_lt j (512 * k.sectors)) [
      | yes q ↦ omega (arith, ground_data j (omega arith) q)
      | no q ↦ let e : get_or (zeros_and_data k) j 0 ≡ 0 = get_or-eq_default (zeros_and_data k) 0 (omega (arith, ground_length h)) in omega arith
    ]
  ]

bytes_head : (b : ℕ) → b < 256 → Bytes (table_head b)
bytes_head b h zero = h
bytes_head b h (suc zero) = omega arith
bytes_head b h (suc (suc zero)) = omega arith
bytes_head b h (suc (suc (suc i))) = omega arith

-- a word of zeros is the entry 0
taken_zero : (e : Bool) (w : ℕ) → w ≡ 0 → taken e w ≡ 0
unfolding taken
taken_zero true w e = omega arith
taken_zero false w e = omega arith

number_zero : (l : List ℕ) (at : ℕ) → get_or l (at + 0) 0 ≡ 0 → get_or l (at + 1) 0 ≡ 0 → number l at 2 ≡ 0
unfolding number
number_zero l at x y = let z : at + 0 ≡ at = omega arith in let x' : get_or l at 0 ≡ 0 = rw z at x in omega arith

-- ---- the heads stored in it

module _ (k : Kind) (u : Usable k) where
  -- there is room for what a copy begins with
  copy_long : 5 ≤ 512 * k.fat
  copy_long =
      let q : 3 ≤ last_cluster k * 3 / 2 = omega (arith, u.some) in
      omega (arith, u.reaches)

  data_within : first_data k ≤ k.sectors
  data_within = omega (arith, u.whole)

  abbrev head : List ℕ
  head = table_head k.byte

  abbrev one : List ℕ
  one = stored (zeros_and_data k) 512 head

  one_long : length one ≡ 512 * k.sectors
  one_long = length_stored (zeros_and_data k) 512 head ∙ ground_length k data_within

  pub length_blank : length (blank k) ≡ 512 * k.sectors
  unfolding blank
  length_blank = length_stored one (copy_two k) head ∙ one_long

  pub bytes_blank : k.byte < 256 → Bytes (blank k)
  unfolding blank
  bytes_blank h = bytes_stored one (copy_two k) head (bytes_stored (zeros_and_data k) 512 head (bytes_ground k data_within) (bytes_head k.byte h)) (bytes_head k.byte h)

  outside_heads : (j : ℕ) → Outside 512 3 j → Outside (copy_two k) 3 j → get_or (blank k) j 0 ≡ get_or (zeros_and_data k) j 0
  unfolding blank
  outside_heads j p q = stored_outside one (copy_two k) head j q ∙ stored_outside (zeros_and_data k) 512 head j p

  -- "data bytes F6;"
  pub blank_data : (j : ℕ) → 512 * first_data k ≤ j → j < 512 * k.sectors → get_or (blank k) j 0 ≡ 0xF6
  blank_data j g h = outside_heads j (inr (omega (arith, copy_long))) (inr (omega (arith, copy_long))) ∙ ground_data k j g h

  -- "everything before it zero,"
  pub blank_zero : (j : ℕ) → j < 512 * first_data k → Outside 512 3 j → Outside (copy_two k) 3 j → get_or (blank k) j 0 ≡ 0
  blank_zero j h p q = outside_heads j p q ∙ ground_zero k j h

  -- "but for the kind byte and FF FF in each copy"
  pub blank_head : (i : ℕ) → i < 3 → get_or (blank k) (512 + i) 0 ≡ get_or head i 0
  unfolding blank
  blank_head i h = stored_outside one (copy_two k) head (512 + i) (inl (omega (arith, copy_long))) ∙ stored_inside (zeros_and_data k) 512 head i h (omega (arith, ground_length k data_within, copy_long, data_within))

  pub blank_head_second : (i : ℕ) → i < 3 → get_or (blank k) (copy_two k + i) 0 ≡ get_or head i 0
  unfolding blank
  blank_head_second i h = stored_inside one (copy_two k) head i h (omega (arith, one_long, copy_long, data_within))

  -- ---- what the rules say of it

  -- it is of its kind
  module _ (named_so : named k.byte ≡ Some k) where
    byte_small : k.byte < 256
    byte_small = elim (dec_lt k.byte 256) [
      | yes h ↦ h
      | no h ↦ absurd (let e = above_bytes k.byte (omega arith) ∙ named_so in let z : ◌≡◌ {A = ℕ} 0 1 = cc in omega arith)
    ]

    pub blank_bytes : Bytes (blank k)
    blank_bytes = bytes_blank byte_small

    pub blank_of_kind : OfKind (blank k) k
    blank_of_kind = record { listed = named_so; long = length_blank; byte = blank_head 0 (omega arith) }

    pub kind_of_blank : kind_of_image (blank k) ≡ Some k
    kind_of_blank = (image_of_kind (blank k) k).1 blank_of_kind

  -- both copies are the same
  pub blank_agrees : Agree (copy_two k) (512 * k.fat) (blank k)
  blank_agrees j h = elim (dec_lt j 3) [
    | yes p ↦ blank_head j p ∙ sym (blank_head_second j p)
    | no p ↦ blank_zero (512 + j) (omega arith) (inr (omega arith)) (inl (omega arith)) ∙ sym (blank_zero (copy_two k + j) (omega arith) (inr (omega arith)) (inr (omega arith)))
  ]

  -- every cluster is free
  pub blank_entry : (n : ℕ) → 2 ≤ n → n ≤ last_cluster k → entry_of (blank k) n ≡ 0
  unfolding entry_at
  blank_entry n g h = taken_zero (even n) (number (blank k) (word_at 512 n) 2) (number_zero (blank k) (word_at 512 n) (zero_at 0 (omega arith)) (zero_at 1 (omega arith)))
    where
      zero_at : (i : ℕ) → i < 2 → get_or (blank k) (word_at 512 n + i) 0 ≡ 0
      zero_at i t =
          let past : 3 ≤ n * 3 / 2 = omega arith in
          let within : n * 3 / 2 + 2 ≤ 512 * k.fat = entry_within k u n h in
          blank_zero (word_at 512 n + i) (omega arith) (inr (omega arith)) (inl (omega arith))

  pub blank_table : (c : ℕ) → table_of (last_cluster k) (blank k) c ≡ 0
  blank_table c = elim (dec_lt c 2) [
    | yes p ↦ table_outside (last_cluster k) (blank k) c (inl p)
    | no p ↦ elim (dec_le c (last_cluster k)) [
      | yes q ↦ table_inside (last_cluster k) (blank k) c (omega arith) q ∙ blank_entry c (omega arith) q
      | no q ↦ table_outside (last_cluster k) (blank k) c (inr (omega arith))
    ]
  ]

  -- every slot was never used
  pub blank_slot : (s : ℕ) → s < root_entries k → NeverUsedAt (blank k) (slot_at k s)
  blank_slot s h = blank_zero (slot_at k s) (omega arith) (inr (omega (arith, copy_long))) (inr (omega (arith, copy_long)))
