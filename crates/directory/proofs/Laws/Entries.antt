-- A field stored is read back, and a store leaves every field that it does not touch. A field is an offset and a width, so each
-- law is stated over the place of the store.
use Rattle.std.specs.Prelude.{ℕ, ◌+◌, ◌≤◌, ◌<◌, ◌≡◌, refl, get_or}
use native.Mathlib.Omega.{arith}
use Rattle.std.proofs.Math.Path.{sym}
use Rattle.std.proofs.Common.{◌∙◌, ap, inl, inr, get_or-append-add, take_at}
use mathlib.Core.List.{List, [], ◌∷◌, ◌++◌, append_assoc}
use Rattle.std.proofs.Math.ListN.{length, replicate, length-append, get_or-append}
use Rattle.std.proofs.Math.Seq.{drop_at, get_or_at}
use Rattle.image.specs.Store.{stored, part}
use Rattle.image.specs.Aids.Ranges.{Outside, Apart}
use Rattle.image.specs.Numbers.{number, digits}
use Rattle.image.proofs.Laws.Store.{length_stored, stored_inside, stored_outside, part_same, part_at, part_stored, part_apart}
use Rattle.image.proofs.Laws.Numbers.{length_digits, number_same, number_stored, number_apart}
use Rattle.fields.specs.Fields.{attr_of, with_first, with_attr, with_name, with_entry, tail_bytes}
use Rattle.fields.specs.Aids.Fields.{head_bytes, entry_bytes}
use Rattle.directory.specs.Slots.{standing_by, standing_of}
use Rattle.directory.specs.Entries.{HasFields, SameBytes}
use Rattle.directory.specs.Aids.Entries.{SameFields, Untouched}
use Rattle.fields.proofs.Laws.Fields.{length_head, length_entry}

same_standing : (f f' v v' : ℕ) → f ≡ f' → v ≡ v' → standing_by f v ≡ standing_by f' v'
same_standing f f' v v' p q = rw (p, q)

-- ---- an entry is a function of its 32 bytes

module _ (l m : List ℕ) (a b : ℕ) (fl : a + 32 ≤ length l) (fm : b + 32 ≤ length m) (same : SameBytes l a m b) where
  from : (o w : ℕ) → o + w ≤ 32 → (i : ℕ) → i < w → get_or l (a + o + i) 0 ≡ get_or m (b + o + i) 0
  from o w h i k =
      let x : a + (o + i) ≡ a + o + i = omega arith in
      let y : b + (o + i) ≡ b + o + i = omega arith in
      rw (x, y) at (same (o + i) (omega arith))

  run : (o w : ℕ) → o + w ≤ 32 → part l (a + o) w ≡ part m (b + o) w
  run o w h = part_same l m (a + o) (b + o) w (omega arith) (omega arith) (from o w h)

  digit : (o w : ℕ) → o + w ≤ 32 → number l (a + o) w ≡ number m (b + o) w
  digit o w h = number_same l m (a + o) (b + o) w (from o w h)

  head : get_or l a 0 ≡ get_or m b 0
  head =
      let x : a + 0 ≡ a = omega arith in
      let y : b + 0 ≡ b = omega arith in
      rw (x, y) at (same 0 (omega arith))

  pub same_fields : SameFields l a m b
  same_fields = record {
    name = part_same l m a b 11 (omega arith) (omega arith) (λ i k. same i (omega arith));
    attr = same 11 (omega arith);
    reserved = run 12 10 (omega arith);
    time = digit 22 2 (omega arith);
    date = digit 24 2 (omega arith);
    start = digit 26 2 (omega arith);
    size = digit 28 4 (omega arith);
    standing = same_standing (get_or l a 0) (get_or m b 0) (attr_of l a) (attr_of m b) head (same 11 (omega arith));
  }

-- two parts of 32 bytes that are one list
pub same_bytes : (l m : List ℕ) (a b : ℕ) → part l a 32 ≡ part m b 32 → SameBytes l a m b
same_bytes l m a b e i k = sym (part_at l a 32 i k) ∙ ap (λ (x : List ℕ). get_or x i 0) e ∙ part_at m b 32 i k

-- ---- what a store leaves

module _ (l : List ℕ) (p n : ℕ) (s : List ℕ) (long : length s ≡ n) (a : ℕ) (fits : a + 32 ≤ length l) where
  out : (j : ℕ) → Outside p n j → get_or (stored l p s) j 0 ≡ get_or l j 0
  out j o = stored_outside l p s j (rw long o)

  run_apart : (b w : ℕ) → b + w ≤ length l → Apart p n b w → part (stored l p s) b w ≡ part l b w
  run_apart b w f o = part_apart l p s b w f (rw long o)

  digit_apart : (b w : ℕ) → Apart p n b w → number (stored l p s) b w ≡ number l b w
  digit_apart b w o = number_apart l p s b w (rw long o)

  -- the fields that it does not touch, in the entry where it stands and in any other
  pub untouched : Untouched (stored l p s) l p n a
  untouched = record {
    first = out a;
    name = run_apart a 11 (omega arith);
    attr = out (a + 11);
    reserved = run_apart (a + 12) 10 (omega arith);
    time = digit_apart (a + 22) 2;
    date = digit_apart (a + 24) 2;
    start = digit_apart (a + 26) 2;
    size = digit_apart (a + 28) 4;
    standing = λ x y. same_standing (get_or (stored l p s) a 0) (get_or l a 0) (attr_of (stored l p s) a) (attr_of l a) (out a x) (out (a + 11) y);
  }

  -- an entry whose 32 bytes lie apart from it stays whole
  pub elsewhere : Apart p n a 32 → SameFields (stored l p s) a l a
  elsewhere o =
      same_fields (stored l p s) l a a (rw (length_stored l p s) fits) fits
      (λ i k. out (a + i) (elim o [ inl q ↦ inr (omega arith) | inr q ↦ inl (omega arith) ]))

-- the widths that fields have
pub byte_leaves : (l : List ℕ) (at v a : ℕ) → a + 32 ≤ length l → Untouched (stored l at (v ∷ [])) l at 1 a
byte_leaves l at v a f = untouched l at 1 (v ∷ []) refl a f

pub word_leaves : (l : List ℕ) (at v a : ℕ) → a + 32 ≤ length l → Untouched (stored l at (digits v 2)) l at 2 a
word_leaves l at v a f = untouched l at 2 (digits v 2) (length_digits v 2) a f

pub long_leaves : (l : List ℕ) (at v a : ℕ) → a + 32 ≤ length l → Untouched (stored l at (digits v 4)) l at 4 a
long_leaves l at v a f = untouched l at 4 (digits v 4) (length_digits v 4) a f

-- ---- what was stored is read back

-- first byte, attribute
pub byte_back : (l : List ℕ) (at v : ℕ) → at < length l → get_or (stored l at (v ∷ [])) at 0 ≡ v
byte_back l at v f = let e : at + 0 ≡ at = omega arith in rw e at (stored_inside l at (v ∷ []) 0 (omega arith) (omega arith))

-- time, date, start
pub word_back : (l : List ℕ) (at v : ℕ) → v < 65536 → at + 2 ≤ length l → number (stored l at (digits v 2)) at 2 ≡ v
word_back l at v h f = number_stored l at v 2 (omega arith) f

-- size
pub long_back : (l : List ℕ) (at v : ℕ) → v < 4294967296 → at + 4 ≤ length l → number (stored l at (digits v 4)) at 4 ≡ v
long_back l at v h f = number_stored l at v 4 (omega arith) f

-- name, reserved bytes
pub run_back : (l : List ℕ) (at n : ℕ) (s : List ℕ) → length s ≡ n → at + n ≤ length l → part (stored l at s) at n ≡ s
run_back l at n s e f = rw (← e) (part_stored l at s (omega arith))

-- ---- what the slot stands for after a store

module _ (l : List ℕ) (a : ℕ) (fits : a + 32 ≤ length l) where
  pub standing_first : (v : ℕ) → standing_of (with_first l a v) a ≡ standing_by v (attr_of l a)
  standing_first v =
      same_standing _ v _ (attr_of l a) (byte_back l a v (omega arith)) (stored_outside l a (v ∷ []) (a + 11) (inr (omega arith)))

  pub standing_attr : (v : ℕ) → standing_of (with_attr l a v) a ≡ standing_by (get_or l a 0) v
  standing_attr v =
      same_standing _ (get_or l a 0) _ v (stored_outside l (a + 11) (v ∷ []) a (inl (omega arith))) (byte_back l (a + 11) v (omega arith))

  module _ (name : List ℕ) (long : length name ≡ 11) where
    pub standing_name : standing_of (with_name l a name) a ≡ standing_by (get_or name 0 0) (attr_of l a)
    standing_name =
        let e : a + 0 ≡ a = omega arith in
        same_standing _ (get_or name 0 0) _ (attr_of l a) (rw e at (stored_inside l a name 0 (omega arith) (omega arith)))
        (stored_outside l a name (a + 11) (inr (omega arith)))

-- ---- a fresh entry holds what was given

-- what stands behind a list of k bytes
behind : (p q : List ℕ) (k o w : ℕ) → length p ≡ k → number (p ++ q) (k + o) w ≡ number q o w
behind p q k o w e =
    number_same (p ++ q) q (k + o) o w
    (λ i h. let x : k + o + i ≡ length p + (o + i) = omega arith in rw x (get_or-append-add p q (o + i) 0))

module _ (name : List ℕ) (attr time date start size : ℕ) (long : length name ≡ 11) where
  -- its bytes behind the name
  rest : List ℕ
  rest = (attr ∷ replicate 10 0) ++ tail_bytes time date start size

  bytes : List ℕ
  bytes = entry_bytes name attr time date start size

  split : bytes ≡ name ++ rest
  unfolding bytes rest head_bytes
  split = append_assoc name (attr ∷ replicate 10 0) (tail_bytes time date start size)

  own_name : part bytes 0 11 ≡ name
  own_name = rw (split, take_at name rest 11 long)

  own_attr : get_or bytes 11 0 ≡ attr
  unfolding rest
  own_attr = rw (split, get_or_at name attr (replicate 10 0 ++ tail_bytes time date start size) 0 11 long)

  own_reserved : part bytes 12 10 ≡ replicate 10 0
  unfolding rest
  own_reserved =
      let e : length (name ++ (attr ∷ [])) ≡ 12 = length-append name (attr ∷ []) ∙ omega arith in
      let g : name ++ rest ≡ (name ++ (attr ∷ [])) ++ (replicate 10 0 ++ tail_bytes time date start size) = sym (append_assoc name (attr ∷ []) (replicate 10 0 ++ tail_bytes time date start size)) in
      rw (split, g, drop_at (name ++ (attr ∷ [])) (replicate 10 0 ++ tail_bytes time date start size) 12 e)

  own_digits : (o w : ℕ) → number bytes (22 + o) w ≡ number (tail_bytes time date start size) o w
  unfolding bytes head_bytes
  own_digits o w = behind (head_bytes name attr) (tail_bytes time date start size) 22 o w (length_head name attr long)

  module _ (l : List ℕ) (a : ℕ) (fits : a + 32 ≤ length l) where
    after : List ℕ
    after = with_entry l a name attr time date start size

    copied : SameFields after a bytes 0
    unfolding after bytes
    copied =
        let n : length (entry_bytes name attr time date start size) ≡ 32 = length_entry name attr time date start size long in
        same_fields after bytes a 0 (rw (length_stored l a bytes) fits) (omega arith)
        (λ i k. let z : 0 + i ≡ i = omega arith in rw z (stored_inside l a bytes i (omega arith) (omega arith)))

    module _ (tl : time < 65536) (dl : date < 65536) (sl : start < 65536) (zl : size < 4294967296) where
      pub fresh : HasFields (with_entry l a name attr time date start size) a name attr time date start size
      unfolding after bytes tail_bytes digits number
      fresh = record {
        name = copied.name ∙ own_name;
        attr = copied.attr ∙ own_attr;
        reserved = copied.reserved ∙ own_reserved;
        time = copied.time ∙ own_digits 0 2 ∙ omega arith;
        date = copied.date ∙ own_digits 2 2 ∙ omega arith;
        start = copied.start ∙ own_digits 4 2 ∙ omega arith;
        size = copied.size ∙ own_digits 6 4 ∙ omega arith;
      }

    pub standing_entry : standing_of (with_entry l a name attr time date start size) a ≡ standing_by (get_or name 0 0) attr
    unfolding after
    standing_entry =
        copied.standing
        ∙ same_standing (get_or bytes 0 0) (get_or name 0 0) (get_or bytes 11 0) attr (rw split (get_or-append name rest 0 0 (omega arith))) own_attr
