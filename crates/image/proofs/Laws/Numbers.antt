-- A number stored is the number read; what is stored elsewhere leaves it. One law for every width.
use Rattle.std.specs.Prelude.{ℕ, zero, suc, ◌+◌, ◌*◌, ◌/◌, ◌%◌, ◌^◌, ◌≤◌, ◌<◌, ◌≡◌, refl, List, length, get_or, set}
use Rattle.std.proofs.Common.{arith, pow-suc, ◌∙◌, ap, inl, inr, length-set, get_or-set_same}
use Rattle.image.specs.Bytes.{Bytes}
use Rattle.image.specs.Store.{stored}
use Rattle.image.specs.Aids.Ranges.{Apart}
use Rattle.image.specs.Numbers.{number, digits}
use Rattle.image.proofs.Laws.Store.{stored_outside}

pub length_digits : (n w : ℕ) → length (digits n w) ≡ w
unfolding digits
length_digits n zero = refl
length_digits n (suc w) = ap suc (length_digits (n / 256) w)

pub bytes_digits : (n w : ℕ) → Bytes (digits n w)
unfolding digits
bytes_digits n zero i = omega arith
bytes_digits n (suc w) zero = omega arith
bytes_digits n (suc w) (suc i) = bytes_digits (n / 256) w i

-- a number is a function of its bytes
pub number_same : (l m : List ℕ) (a b w : ℕ) → ((i : ℕ) → i < w → get_or l (a + i) 0 ≡ get_or m (b + i) 0) → number l a w ≡ number m b w
unfolding number
number_same l m a b zero h = refl
number_same l m a b (suc w) h =
    let e : get_or l a 0 ≡ get_or m b 0 = first (h 0 (omega arith)) in
    let r : number l (a + 1) w ≡ number m (b + 1) w = number_same l m (a + 1) (b + 1) w (λ i k. later i (h (suc i) (omega arith))) in
    omega arith
  where
    first : get_or l (a + 0) 0 ≡ get_or m (b + 0) 0 → get_or l a 0 ≡ get_or m b 0
    first p = let x : a + 0 ≡ a = omega arith in let y : b + 0 ≡ b = omega arith in rw (x, y) at p

    later : (i : ℕ) → get_or l (a + suc i) 0 ≡ get_or m (b + suc i) 0 → get_or l (a + 1 + i) 0 ≡ get_or m (b + 1 + i) 0
    later i p = let x : a + suc i ≡ a + 1 + i = omega arith in let y : b + suc i ≡ b + 1 + i = omega arith in rw (x, y) at p

pub number_small : (l : List ℕ) (at w : ℕ) → Bytes l → number l at w < 256 ^ w
unfolding number
number_small l at zero b = omega arith
number_small l at (suc w) b = let e : 256 ^ suc w ≡ 256 ^ w * 256 = pow-suc 256 w in omega (arith, b at, number_small l (at + 1) w b)

-- what was stored is read back
pub number_stored : (l : List ℕ) (at n w : ℕ) → n < 256 ^ w → at + w ≤ length l → number (stored l at (digits n w)) at w ≡ n
unfolding number digits stored
number_stored l at n zero h f = omega arith
number_stored l at n (suc w) h f =
    let e : 256 ^ suc w ≡ 256 ^ w * 256 = pow-suc 256 w in
    let m = set l at (n % 256) in
    let first : get_or (stored m (at + 1) (digits (n / 256) w)) at 0 ≡ n % 256 = stored_outside m (at + 1) (digits (n / 256) w) at (inl (omega arith)) ∙ get_or-set_same l at (n % 256) 0 (omega arith) in
    let rest : number (stored m (at + 1) (digits (n / 256) w)) (at + 1) w ≡ n / 256 = number_stored m (at + 1) (n / 256) w (omega arith) (rw (length-set l at (n % 256)) (omega arith)) in
    omega arith

-- a number that the store does not touch
pub number_apart : (l : List ℕ) (at : ℕ) (s : List ℕ) (b w : ℕ) → Apart at (length s) b w → number (stored l at s) b w ≡ number l b w
number_apart l at s b w p =
    number_same (stored l at s) l b b w (λ i k. stored_outside l at s (b + i) (elim p [ inl q ↦ inr (omega arith) | inr q ↦ inl (omega arith) ]))

-- ---- two stores are the run of the two bytes

pub put_word : (l : List ℕ) (at n : ℕ) → n < 65536 → set (set l at (n % 256)) (at + 1) (n / 256) ≡ stored l at (digits n 2)
unfolding digits stored
put_word l at n h = let e : n / 256 % 256 ≡ n / 256 = omega arith in rw e
