-- How many digits a number has, and digits put on a page.
use Rattle.std.specs.Prelude.{ℕ, zero, suc, ◌+◌, ◌-◌, ◌*◌, ◌/◌, ◌%◌, ◌^◌, ◌≤◌, ◌<◌, List, [], ◌∷◌, ◌≡◌, refl, length, set, max}
use Rattle.std.proofs.Common.{arith, mod-lt, inr, sym, ap, ◌∙◌, length-append, lt-ltb, le-ltb}
use Rattle.std.proofs.Math.Decide.{dec_lt}
use Rattle.std.proofs.Math.Nat.{pow-suc}
use Rattle.image.specs.Store.{stored}
use Rattle.image.proofs.Laws.Store.{stored_append, stored_swap, length_stored}
use Rattle.text.specs.declared.page.Page.{Page}
use Rattle.text.specs.Digits.{digit_sign, in_digits, width_in, width, decimal}
use Rattle.text.specs.Aids.Pages.{AddsIn}

-- ---- a sign

pub sign_figure : (d : ℕ) → d < 10 → 0x30 + d ≡ digit_sign d
unfolding digit_sign
sign_figure d h = rw (lt-ltb d 10 h)

pub sign_letter : (d : ℕ) → 10 ≤ d → 0x41 + (d - 10) ≡ digit_sign d
unfolding digit_sign
sign_letter d h = rw (le-ltb d 10 h)

-- ---- how many digits

enough : (f g n : ℕ) → n ≤ f → n ≤ g → width_in f n ≡ width_in g n
unfolding width_in
enough zero zero n p q = refl
enough zero (suc g) n p q = rw (lt-ltb n 10 (omega arith))
enough (suc f) zero n p q = rw (lt-ltb n 10 (omega arith))
enough (suc f) (suc g) n p q = elim (dec_lt n 10) [
  | yes h ↦ rw (lt-ltb n 10 h)
  | no h ↦ rw (le-ltb n 10 (omega arith), enough f g (n / 10) (omega arith) (omega arith))
]

pub width_one : (n : ℕ) → n < 10 → width n ≡ 1
unfolding width width_in
width_one n h = enough n (suc n) n (omega arith) (omega arith) ∙ rw (lt-ltb n 10 h)

pub width_more : (n : ℕ) → 9 < n → width n ≡ 1 + width (n / 10)
unfolding width width_in
width_more n h = enough n (suc n) n (omega arith) (omega arith) ∙ rw (le-ltb n 10 h, enough n (n / 10) (n / 10) (omega arith) (omega arith))

-- ten to the power k + 1
abbrev tens : ℕ → ℕ
tens zero = 10
tens (suc k) = tens k * 10

width_below : (k n : ℕ) → n < tens k → width n ≤ k + 1
width_below zero n h = omega (arith, width_one n h)
width_below (suc k) n h = elim (dec_lt n 10) [
  | yes p ↦ omega (arith, width_one n p)
  | no p ↦ omega (arith, width_more n (omega arith), width_below k (n / 10) (omega arith))
]

-- a number of 64 bits
pub width_most : (n : ℕ) → n < 0x1_0000_0000_0000_0000 → width n ≤ 20
width_most n h = width_below 19 n (omega arith)

some_ten : (k : ℕ) → 0 < 10 ^ k
some_ten zero = omega arith
some_ten (suc k) = omega (arith, pow-suc 10 k, some_ten k)

-- by the power of ten that n reaches; 0 has one digit as 1 has
pub width_at : (n k : ℕ) → 10 ^ k ≤ max n 1 → max n 1 < 10 * 10 ^ k → width n ≡ k + 1
width_at n zero p q = width_one n (omega arith)
width_at n (suc k) p q =
    let power : 10 ^ suc k ≡ 10 ^ k * 10 = pow-suc 10 k in
    let some : 0 < 10 ^ k = some_ten k in
    omega (arith, width_more n (omega (arith, power, some, p)), width_at (n / 10) k (omega (arith, power, some, p)) (omega (arith, power, q)))

-- ---- digits on a page

pub below_base : (n base : ℕ) → 1 < base → base ≤ 16 → n % base < 16
below_base n base h k = omega (arith, mod-lt n {m = base} (omega arith))

pub length_digits : (base w n : ℕ) → length (in_digits base w n) ≡ w
unfolding in_digits
length_digits base zero n = refl
length_digits base (suc w) n = rw (length-append (in_digits base w (n / base)) (digit_sign (n % base) ∷ [])) (omega (arith, length_digits base w (n / base)))

digits_step : (l : List ℕ) (at base n i : ℕ) → at + (i + 1) ≤ length l
    → stored (set l (at + i) (digit_sign (n % base))) at (in_digits base i (n / base)) ≡ stored l at (in_digits base (suc i) n)
unfolding stored in_digits
digits_step l at base n i f =
    let ds : List ℕ = in_digits base i (n / base) in
    let x : List ℕ = digit_sign (n % base) ∷ [] in
    let e : length ds ≡ i = length_digits base i (n / base) in
    stored_swap l (at + i) x at ds (omega arith) (omega arith) (inr (omega arith)) ∙ ap (λ (k : ℕ). stored (stored l at ds) (at + k) x) (sym e) ∙ sym (stored_append l at ds x)

-- in the form of the loop: what is left is stored before what stands there
pub digits_turn : (l l₀ m : List ℕ) (at base n w i b : ℕ) → 0 < i → i ≤ w → length l ≡ length l₀ → at + w ≤ length l₀ → b ≡ digit_sign (n % base)
    → stored l at (in_digits base i n) ≡ m → stored (set l (at + (i - 1)) b) at (in_digits base (i - 1) (n / base)) ≡ m
digits_turn l l₀ m at base n w zero b h k e f d inv = absurd (omega arith)
digits_turn l l₀ m at base n w (suc i) b h k e f d inv =
    let p : suc i - 1 ≡ i = omega arith in
    rw (p, d) (digits_step l at base n i (omega arith) ∙ inv)

pub digits_done : (l m : List ℕ) (at base n i : ℕ) → i ≤ 0 → stored l at (in_digits base i n) ≡ m → l ≡ m
unfolding stored in_digits
digits_done l m at base n zero h inv = inv
digits_done l m at base n (suc i) h inv = absurd (omega arith)

-- what is stored so, on the page
pub adds_digits : (base count n : ℕ) (p q : Page) → p.at + count ≤ length p.out.now → q.out.ghost_name ≡ p.out.ghost_name
    → q.out.now ≡ stored p.out.now p.at (in_digits base count n) → q.at ≡ p.at + count → AddsIn count (in_digits base count n) p q
adds_digits base count n p q room same is next =
    let w = length_digits base count n in
    record {
      adds = record {
        same = same;
        long = ap (λ (l : List ℕ). length l) is ∙ length_stored p.out.now p.at (in_digits base count n);
        puts = record { stores = is; next = omega (arith, w) };
      };
      room = omega arith;
    }

-- a number of 64 bits
module _ (n w : ℕ) (e : w ≡ width n) (h : n < 2 ^ 64) where
  pub decimal_fits : w ≤ 20
  decimal_fits = omega (arith, width_most n (omega arith))

  pub adds_decimal : (p q : Page) → AddsIn w (in_digits 10 w n) p q → AddsIn 20 (decimal n) p q
  unfolding decimal
  adds_decimal p q f = record { adds = rw e at f.adds; room = omega (arith, f.room, decimal_fits) }
