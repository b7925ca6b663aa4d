-- How many clusters a size asks for, and the laws through which the test of a chain's length is used.
use Rattle.std.specs.Prelude.{ℕ, suc, ◌+◌, ◌-◌, ◌*◌, ◌/◌, ◌≤◌, ◌<◌, max, ◌≡◌, true, leb}
use Rattle.std.proofs.Common.{arith, div-lt_iff_lt-mul, mul-le-mul_right, sym, ap, ◌∙◌, leb-true, le-leb}
use Rattle.std.proofs.Math.Decide.{ℕ_discrete, dec_lt}
use Rattle.std.proofs.lemmas.Bool.{lt-leb}
use Rattle.chains.specs.Sizes.{clusters_for}
use Rattle.chains.specs.Aids.Sizes.{fits}

pub clusters_least : (cb : ℕ) → 0 < cb → (n k : ℕ) → n ≤ k * cb → clusters_for cb n ≤ k
unfolding clusters_for
clusters_least cb p n k h = omega (arith, (div-lt_iff_lt-mul {k = cb} {x = n + (cb - 1)} {y = suc k} (p)).1 (omega (arith, p)))

pub clusters_hold : (cb : ℕ) → 0 < cb → (n : ℕ) → n ≤ clusters_for cb n * cb
unfolding clusters_for
clusters_hold cb p n = omega (arith, p, (div-lt_iff_lt-mul {k = cb} {x = n + (cb - 1)} {y = suc ((n + (cb - 1)) / cb)} (p)).0 (omega arith))

pub clusters_zero : (cb : ℕ) → 0 < cb → clusters_for cb 0 ≡ 0
clusters_zero cb p = omega (arith, clusters_least cb p 0 0 (omega arith))

pub clusters_grow : (cb : ℕ) → 0 < cb → (m n : ℕ) → m ≤ n → clusters_for cb m ≤ clusters_for cb n
clusters_grow cb p m n h = clusters_least cb p m (clusters_for cb n) (omega (arith, clusters_hold cb p n))

pub clusters_some : (cb : ℕ) → 0 < cb → (n : ℕ) → 0 < n → 0 < clusters_for cb n
clusters_some cb p n h = elim (ℕ_discrete (clusters_for cb n) 0) [
  | yes e ↦ let z : clusters_for cb n * cb ≡ 0 * cb = ap (λ (x : ℕ). x * cb) e in omega (arith, clusters_hold cb p n)
  | no k ↦ omega arith
]

-- ---- the test of a chain's length against the size

-- at least what the size needs
pub fits_least : (cb n k : ℕ) → fits cb n k ≡ true → clusters_for cb n ≤ k
unfolding fits
fits_least cb n k e = leb-true (clusters_for cb n) k e

-- and no more is asked
pub fits_from : (cb n k : ℕ) → clusters_for cb n ≤ k → fits cb n k ≡ true
unfolding fits
fits_from cb n k h = le-leb (clusters_for cb n) k h

-- with what is lacking it is true
pub fits_grows : (cb n k : ℕ) → fits cb n (max k (clusters_for cb n)) ≡ true
fits_grows cb n k = fits_from cb n (max k (clusters_for cb n)) (omega arith)

-- nothing for nothing
pub fits_empty : (cb : ℕ) → 0 < cb → fits cb 0 0 ≡ true
fits_empty cb p = fits_from cb 0 0 (omega (arith, clusters_zero cb p))

-- as the code tests it: k clusters have room for all bytes
pub fits_room : (cb : ℕ) → 0 < cb → (n k : ℕ) → leb n (k * cb) ≡ fits cb n k
unfolding fits
fits_room cb p n k = elim (dec_lt (k * cb) n) [
  | yes h ↦ lt-leb n (k * cb) h ∙ sym (lt-leb (clusters_for cb n) k (more h))
  | no h ↦ le-leb n (k * cb) (omega arith) ∙ sym (le-leb (clusters_for cb n) k (clusters_least cb p n k (omega arith)))
]
  where
    more : k * cb < n → k < clusters_for cb n
    more h = elim (dec_lt k (clusters_for cb n)) [
      | yes l ↦ l
      | no l ↦ absurd (let m : clusters_for cb n * cb ≤ k * cb = mul-le-mul_right cb (omega arith) in omega (arith, clusters_hold cb p n))
    ]
