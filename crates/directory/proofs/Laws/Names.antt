-- Two names of 11 bytes pass the comparison where they are one list.
use Prim.Native.Nat.{ℕ, zero, suc, ◌+◌, ◌-◌, ◌≤◌, ◌<◌}
use native.Mathlib.Omega.{arith}
use Rattle.std.proofs.Math.Decide.{ℕ_discrete}
use Rattle.std.specs.Prelude.{Bool, true, false, ◌&&◌, List, ◌≢◌, ◌↔◌, ◌≡◌, refl, eqb, length, get_or, take, drop}
use Rattle.std.proofs.Common.{sym, ◌∙◌, ext_get_or, eqb-true, eq-eqb}
use Rattle.std.proofs.lemmas.Bool.{false_from_ne_true}
use Rattle.std.specs.Bool.{MatchBool}
use Rattle.std.specs.Cmp.Lexicographic.{pointwise, told_text}
use Rattle.image.proofs.Laws.Store.{length_part}
use Rattle.fields.specs.Fields.{name_of}
use Rattle.directory.specs.Slots.{PlainAt, standing_of, is_plain}
use Rattle.directory.specs.Search.{same_from, is_named}
use Rattle.directory.proofs.Laws.Slots.{plain_is}

and_both : (a b : Bool) → (a && b) ≡ true → (a ≡ true) × (b ≡ true)
and_both true b p = (refl, p)
and_both false b p = (p, absurd (let z : ◌≡◌ {A = ℕ} 0 1 = cc in omega arith))

from_bytes : (x y : List ℕ) (i n : ℕ) → same_from x y i n ≡ true → (j : ℕ) → i ≤ j → j < i + n → get_or x j 0 ≡ get_or y j 0
unfolding same_from
from_bytes x y i zero e j h k = absurd (omega arith)
from_bytes x y i (suc n) e j h k =
    let b = and_both (eqb (get_or x i 0) (get_or y i 0)) (same_from x y (i + 1) n) e in
    elim (ℕ_discrete j i) [
      | yes q ↦ rw q (eqb-true (get_or x i 0) (get_or y i 0) b.0)
      | no q ↦ from_bytes x y (i + 1) n b.1 j (omega arith) (omega arith)
    ]

itself : (x : List ℕ) (i n : ℕ) → same_from x x i n ≡ true
unfolding same_from
itself x i zero = refl
itself x i (suc n) = rw (eq-eqb (get_or x i 0) (get_or x i 0) refl) (itself x (i + 1) n)

-- Names are equal where all their 11 bytes are.
pub same_name_equal : (x y : List ℕ) → length x ≡ 11 → length y ≡ 11 → (same_from x y 0 11 ≡ true) ↔ (x ≡ y)
same_name_equal x y e f =
    (λ s. ext_get_or 0 x y (e ∙ sym f) (λ i k. from_bytes x y 0 11 s i (omega arith) (omega arith)), λ q. rw q (itself y 0 11))

-- The library's equality of two lists of bytes says the same.
pub same_by_eq : (x y : List ℕ) → length x ≡ 11 → length y ≡ 11 → (r : Bool) → r ≡ pointwise eqb x y → r ≡ same_from x y 0 11
same_by_eq x y e f r p = by r (told_text x y r p)
  where
    by : (b : Bool) → MatchBool b (x ≡ y) (x ≢ y) → b ≡ same_from x y 0 11
    by true q = sym ((same_name_equal x y e f).1 q)
    by false d = sym (false_from_ne_true (same_from x y 0 11) (λ t. d ((same_name_equal x y e f).0 t)))

-- So it does of the name where it stands in the entry.
pub same_in_place : (l name : List ℕ) (a : ℕ) → a + 32 ≤ length l → length name ≡ 11
    → (r : Bool) → r ≡ pointwise eqb (take (a + 11 - a) (drop a l)) name → r ≡ same_from (name_of l a) name 0 11
same_in_place l name a f long r e =
    let n : a + 11 - a ≡ 11 = omega arith in
    same_by_eq (name_of l a) name (length_part l a 11 (omega arith)) long r (rw n at e)

-- The entry is the plain file of that name.
pub named_is : (l : List ℕ) (a : ℕ) → a + 32 ≤ length l → (name : List ℕ) → length name ≡ 11
    → (is_named l a name ≡ true) ↔ (PlainAt l a × (name_of l a ≡ name))
named_is l a f name long = (to, from)
  where
    same : (same_from (name_of l a) name 0 11 ≡ true) ↔ (name_of l a ≡ name)
    same = same_name_equal (name_of l a) name (length_part l a 11 (omega arith)) long

    to : is_named l a name ≡ true → PlainAt l a × (name_of l a ≡ name)
    to e = let b = and_both (is_plain (standing_of l a)) (same_from (name_of l a) name 0 11) e in ((plain_is l a).0 b.0, same.0 b.1)

    from : PlainAt l a × (name_of l a ≡ name) → is_named l a name ≡ true
    from h = rw ((plain_is l a).1 h.0) (same.1 h.1)
