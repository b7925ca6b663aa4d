-- Which names match: by index, and a pattern without `?`.
use Prim.Native.Nat.{ℕ, zero, suc, ◌+◌, ◌-◌, ◌≤◌, ◌<◌}
use native.Mathlib.Omega.{arith}
use Rattle.std.proofs.Math.Decide.{ℕ_discrete}
use Rattle.std.specs.Prelude.{Bool, true, ◌&&◌, List, Some, ◌⊎◌, ◌≢◌, ◌↔◌, ◌≡◌, refl, eqb, length, get_or, take, drop, ◌∷◌}
use Rattle.std.proofs.Math.Bool.{or-true}
use Rattle.std.proofs.Common.{inl, inr, ⊎_elim, sym, ◌∙◌, ap, ext_get_or, add-one, drop-cons, drop_of_length-le, eqb-true, eq-eqb}
use Rattle.std.specs.List.{list_all, zip}
use Rattle.image.proofs.Laws.Store.{length_part}
use Rattle.fields.specs.Fields.{name_of}
use Rattle.std.proofs.lemmas.Bool.{or_cases}
use Rattle.names.specs.Alphabet.{plain}
use Rattle.names.specs.Reading.{name_given, name_bytes}
use Rattle.names.proofs.Laws.Tests.{and_left, and_right}
use Rattle.names.proofs.Laws.Alphabet.{told}
use Rattle.names.proofs.Laws.Proper.{proper}
use Rattle.patterns.specs.Patterns.{any, pattern_given, byte_matches, matches_from, matches}
use Rattle.patterns.proofs.Laws.Meaning.{name_is_pattern}

-- ---- the code's needs: the bytes that stand side by side decide

drop_next : (s : List ℕ) (i : ℕ) → i < length s → drop i s ≡ get_or s i 0 ∷ drop (i + 1) s
drop_next s i h = rw (add-one i) (drop-cons s i 0 h)

side_by_side : (p x : List ℕ) (i n : ℕ) → i + n ≡ length p → i + n ≡ length x
    → matches_from p x i n ≡ list_all (λ (b : ℕ × ℕ). byte_matches b.0 b.1) (zip (drop i p) (drop i x))
unfolding matches_from
side_by_side p x i zero l m = rw (drop_of_length-le p {i = i} (omega arith)) refl
side_by_side p x i (suc n) l m =
    rw (drop_next p i (omega arith), drop_next x i (omega arith))
    (ap (λ r. byte_matches (get_or p i 0) (get_or x i 0) && r) (side_by_side p x (i + 1) n (omega arith) (omega arith)))

pub all_match : (p l : List ℕ) (a : ℕ) (r : Bool) → length p ≡ 11 → a + 32 ≤ length l
    → r ≡ list_all (λ (b : ℕ × ℕ). byte_matches b.0 b.1) (zip p (take (a + 11 - a) (drop a l))) → r ≡ matches p (name_of l a)
unfolding matches
all_match p l a r long inside e =
    let n : a + 11 - a ≡ 11 = omega arith in
    let m : 11 ≡ length (name_of l a) = sym (length_part l a 11 (omega arith)) in
    rw n at e ∙ sym (side_by_side p (name_of l a) 0 11 (sym long) m)

-- ---- what it means

byte_means : (p x : ℕ) → (byte_matches p x ≡ true) ↔ ((p ≡ any) ⊎ (x ≡ p))
byte_means p x = (there, back)
  where
    there : byte_matches p x ≡ true → (p ≡ any) ⊎ (x ≡ p)
    there e = elim (or_cases (eqb p any) (eqb x p) e) [ inl h ↦ inl (eqb-true p any h) | inr h ↦ inr (eqb-true x p h) ]

    back : (p ≡ any) ⊎ (x ≡ p) → byte_matches p x ≡ true
    back (inl e) = rw (eq-eqb p any e)
    back (inr e) = rw (eq-eqb x p e, or-true (eqb p any))

-- each of the n bytes from byte i on matches
each : (p x : List ℕ) (i n : ℕ) → matches_from p x i n ≡ true → (j : ℕ) → i ≤ j → j < i + n → byte_matches (get_or p j 0) (get_or x j 0) ≡ true
unfolding matches_from
each p x i zero e j h k = absurd (omega arith)
each p x i (suc n) e j h k = elim (ℕ_discrete j i) [
  | yes q ↦ rw q (and_left (byte_matches (get_or p i 0) (get_or x i 0)) (matches_from p x (i + 1) n) e)
  | no q ↦ each p x (i + 1) n (and_right (byte_matches (get_or p i 0) (get_or x i 0)) (matches_from p x (i + 1) n) e) j (omega arith) (omega arith)
]

every_one : (p x : List ℕ) (i n : ℕ) → ((j : ℕ) → i ≤ j → j < i + n → byte_matches (get_or p j 0) (get_or x j 0) ≡ true) → matches_from p x i n ≡ true
unfolding matches_from
every_one p x i zero h = refl
every_one p x i (suc n) h = rw (h i (omega arith) (omega arith)) (every_one p x (i + 1) n (λ j k m. h j (omega arith) (omega arith)))

-- at each of the 11 bytes the pattern has `?`, or the name's byte
pub matches_means : (p x : List ℕ) → (matches p x ≡ true) ↔ ((i : ℕ) → i < 11 → (get_or p i 0 ≡ any) ⊎ (get_or x i 0 ≡ get_or p i 0))
unfolding matches
matches_means p x = (
  λ e i h. (byte_means (get_or p i 0) (get_or x i 0)).0 (each p x 0 11 e i (omega arith) (omega arith)),
  λ f. every_one p x 0 11 (λ j k h. (byte_means (get_or p j 0) (get_or x j 0)).1 (f j (omega arith))),
)

-- eleven bytes without `?` match the name that equals them, and no other
pub matches_itself : (p x : List ℕ) → length p ≡ 11 → length x ≡ 11 → ((i : ℕ) → i < 11 → get_or p i 0 ≢ any) → (matches p x ≡ true) ↔ (x ≡ p)
matches_itself p x l m none = (there, back)
  where
    there : matches p x ≡ true → x ≡ p
    there e = ext_get_or 0 x p (m ∙ sym l) (λ i h. ⊎_elim (λ a. absurd (none i (omega arith) a)) (λ q. q) ((matches_means p x).0 e i (omega arith)))

    back : x ≡ p → matches p x ≡ true
    back e = (matches_means p x).1 (λ i h. inr (ap (λ (y : List ℕ). get_or y i 0) e))

-- a name, taken as a pattern, matches itself alone
pub name_matches : (s n x : List ℕ) → name_given s ≡ Some n → length x ≡ 11 → (matches (name_bytes (pattern_given s)) x ≡ true) ↔ (x ≡ n)
unfolding plain
name_matches s n x f m = rw (name_is_pattern s n f) (matches_itself n x long m none)
  where
    long : length n ≡ 11
    long = (proper s n f).long

    none : (i : ℕ) → i < 11 → get_or n i 0 ≢ any
    none i h e = ⊎_elim (λ a. told plain (get_or n i 0) any a refl e) (λ b. absurd (omega arith)) ((proper s n f).letters i h)
