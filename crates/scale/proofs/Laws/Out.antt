-- What is put into out, in the form of the code's needs: stores side by side are one store.
use Rattle.std.specs.Prelude.{ℕ, ◌+◌, ◌*◌, ◌/◌, ◌%◌, ◌≤◌, ◌<◌, ◌≡◌, refl, List, [], ◌∷◌, length, get_or, drop}
use Rattle.std.proofs.Common.{arith, add-one, ◌∙◌, lt-ltb, le-ltb, length-append, drop-cons}
use lib.ListN.{drop_of_length-le}
use Rattle.image.specs.Store.{stored}
use Rattle.image.specs.Numbers.{digits}
use Rattle.image.proofs.Laws.Numbers.{length_digits}
use Rattle.image.proofs.Laws.Store.{stored_append, and_then}
use Rattle.fields.specs.Fields.{tail_bytes}
use Rattle.scale.specs.Out.{words, fields, put_out}

-- ---- whether it fits

module _ (l s : List ℕ) (n : ℕ) (e : length s ≡ n) where
  put_short : length l < n → l ≡ put_out l s
  unfolding put_out
  put_short h = rw (lt-ltb (length l) (length s) (omega arith))

  put_whole : n ≤ length l → (m : List ℕ) → m ≡ stored l 0 s → m ≡ put_out l s
  unfolding put_out
  put_whole h m p = p ∙ rw (le-ltb (length l) (length s) (omega arith))

-- ---- words

low_bits : (n : ℕ) → digits (n % 4294967296) 4 ≡ digits n 4
unfolding digits
low_bits n =
    let q : n / 256 / 256 / 256 % 256 ≡ n % 4294967296 / 256 / 256 / 256 % 256 = omega arith in
    let r : n / 256 / 256 % 256 ≡ n % 4294967296 / 256 / 256 % 256 = omega arith in
    let t : n / 256 % 256 ≡ n % 4294967296 / 256 % 256 = omega arith in
    let u : n % 256 ≡ n % 4294967296 % 256 = omega arith in
    rw (q, r, t, u)

words_length : (ns : List ℕ) → length (words ns) ≡ 4 * length ns
unfolding words
words_length [] = refl
words_length (n ∷ ns) = let e = words_length ns in omega (arith, length-append (digits n 4) (words ns), length_digits n 4)

-- a word, and then the words that follow it
stored_words : (l : List ℕ) (at n : ℕ) (ns : List ℕ) → stored l at (words (n ∷ ns)) ≡ stored (stored l at (digits n 4)) (at + 4) (words ns)
unfolding words
stored_words l at n ns = rw (stored_append l at (digits n 4) (words ns), length_digits n 4)

module _ (l ns : List ℕ) where
  pub words_short : length l < 4 * length ns → l ≡ put_out l (words ns)
  words_short = put_short l (words ns) (4 * length ns) (words_length ns)

  -- what is left of the words, stored in k from here on, gives them all
  module _ (i : ℕ) (k : List ℕ) (inv : stored k (4 * i) (words (drop i ns)) ≡ stored l 0 (words ns)) where
    pub words_turn : i < length ns → (m : List ℕ) → m ≡ stored k (4 * i) (digits (get_or ns i 0 % 4294967296) 4)
        → stored m (4 * (i + 1)) (words (drop (i + 1) ns)) ≡ stored l 0 (words ns)
    words_turn h m p =
        let d : drop i ns ≡ get_or ns i 0 ∷ drop (i + 1) ns = rw (add-one i) (drop-cons ns i 0 h) in
        let e : 4 * (i + 1) ≡ 4 * i + 4 = omega arith in
        let q = rw (d, stored_words k (4 * i) (get_or ns i 0) (drop (i + 1) ns)) at inv in
        rw (e, p, low_bits (get_or ns i 0)) q

    pub words_put : 4 * length ns ≤ length l → length ns ≤ i → k ≡ put_out l (words ns)
    unfolding words stored
    words_put f h = put_whole l (words ns) (4 * length ns) (words_length ns) f k (rw (drop_of_length-le ns h) at inv)

-- ---- the fields of an entry

length_tail : (time date start size : ℕ) → length (tail_bytes time date start size) ≡ 10
unfolding tail_bytes digits
length_tail time date start size = refl

module _ (l name : List ℕ) (attr time date start size : ℕ) (n : length name ≡ 11) where
  abbrev rest : List ℕ
  rest = tail_bytes time date start size

  abbrev whole : List ℕ
  whole = fields name attr time date start size

  whole_length : length whole ≡ 22
  unfolding fields
  whole_length = omega (arith, length-append name (attr ∷ rest), length_tail time date start size)

  pub fields_short : length l < 22 → l ≡ put_out l whole
  fields_short = put_short l whole 22 whole_length

  pub fields_stored : (l₁ l₂ l₃ l₄ l₅ l₆ : List ℕ) → 22 ≤ length l → l₁ ≡ stored l 0 name → l₂ ≡ stored l₁ 11 (attr ∷ [])
      → l₃ ≡ stored l₂ 12 (digits time 2) → l₄ ≡ stored l₃ 14 (digits date 2) → l₅ ≡ stored l₄ 16 (digits start 2) → l₆ ≡ stored l₅ 18 (digits size 4)
      → l₆ ≡ put_out l whole
  unfolding fields tail_bytes
  fields_stored l₁ l₂ l₃ l₄ l₅ l₆ h p q r s t u =
      let e = and_then l₄ l₅ l₆ 16 18 (digits start 2) (digits size 4) t u (omega (arith, length_digits start 2)) in
      let d = and_then l₃ l₄ l₆ 14 16 (digits date 2) _ s e (omega (arith, length_digits date 2)) in
      let c = and_then l₂ l₃ l₆ 12 14 (digits time 2) _ r d (omega (arith, length_digits time 2)) in
      let b : l₆ ≡ stored l₁ 11 (attr ∷ rest) = and_then l₁ l₂ l₆ 11 12 (attr ∷ []) rest q c refl in
      put_whole l whole 22 whole_length h l₆ (and_then l l₁ l₆ 0 11 name (attr ∷ rest) p b (omega arith))
