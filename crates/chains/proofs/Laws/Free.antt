-- The list of free clusters: what is in it, how long it is, and what taking the lowest leaves of it.
use Rattle.std.specs.Prelude.{ℕ, zero, suc, ◌+◌, ◌-◌, ◌≤◌, ◌<◌, ◌≡◌, refl, ◌↔◌, ◌≢◌, List, [], ◌∷◌, length, take}
use Rattle.std.proofs.Common.{arith, sym, ap, ◌∙◌, inl, inr, eq-eqb, ne_eqb}
use Rattle.std.proofs.Math.Decide.{ℕ_discrete}
use Rattle.chains.specs.Aids.Put.{put}
use Rattle.chains.specs.Lists.{◌∈◌}
use Rattle.chains.specs.Aids.Lists.{occ, Once}
use Rattle.chains.specs.Sums.{tally}
use Rattle.chains.specs.Aids.Sizes.{Geometry}
use Rattle.chains.specs.Values.{Link, freeb, value_count}
use Rattle.chains.specs.Aids.Values.{passes_at}
use Rattle.chains.specs.Free.{free_clusters, free_from}
use Rattle.chains.specs.Aids.Free.{Takable}
use Rattle.chains.proofs.Laws.Put.{put_other, put_same}
use Rattle.chains.proofs.Laws.Lists.{hit_cases, mem_take, occ_not, occ_take}
use Rattle.chains.proofs.Laws.Values.{free_none, free_one}

-- the two cases of a step
pub free_yes : (f : ℕ → ℕ) (n c : ℕ) → f c ≡ 0 → free_from f (suc n) c ≡ c ∷ free_from f n (suc c)
unfolding free_from
free_yes f n c e = rw (eq-eqb (f c) 0 e)

pub free_no : (f : ℕ → ℕ) (n c : ℕ) → f c ≢ 0 → free_from f (suc n) c ≡ free_from f n (suc c)
unfolding free_from
free_no f n c e = rw (ne_eqb (f c) 0 e)

pub free_nil : (f : ℕ → ℕ) (c : ℕ) → free_from f zero c ≡ []
unfolding free_from
free_nil f c = refl

from_mem : (f : ℕ → ℕ) (n c a : ℕ) → a ∈ free_from f n c → (c ≤ a) × (a < c + n) × (f a ≡ 0)
from_mem f zero c a m = absurd (rw free_nil at m)
from_mem f (suc n) c a m = elim (ℕ_discrete (f c) 0) [
  | yes e ↦ elim (rw (free_yes f n c e) at m) [
    | inl h ↦ (omega arith, omega arith, ap f h ∙ e)
    | inr k ↦ let r = from_mem f n (suc c) a k in (omega arith, omega arith, r.2)
  ]
  | no ne ↦ let r = from_mem f n (suc c) a (rw (free_no f n c ne) at m) in (omega arith, omega arith, r.2)
]

mem_from : (f : ℕ → ℕ) (n c a : ℕ) → c ≤ a → a < c + n → f a ≡ 0 → a ∈ free_from f n c
mem_from f zero c a h k e = absurd (omega arith)
mem_from f (suc n) c a h k e = elim (ℕ_discrete (f c) 0) [
  | yes z ↦ rw (free_yes f n c z) (elim (ℕ_discrete a c) [ yes q ↦ inl q | no q ↦ inr (mem_from f n (suc c) a (omega arith) (omega arith) e) ])
  | no nz ↦ rw (free_no f n c nz) (mem_from f n (suc c) a (elim (ℕ_discrete a c) [ yes q ↦ absurd (nz (ap f (sym q) ∙ e)) | no q ↦ omega arith ]) (omega arith) e)
]

from_once : (f : ℕ → ℕ) (n c : ℕ) → Once (free_from f n c)
unfolding occ
from_once f zero c a = rw free_nil (omega arith)
from_once f (suc n) c a = elim (ℕ_discrete (f c) 0) [
  | no ne ↦ rw (free_no f n c ne) (from_once f n (suc c) a)
  | yes e ↦ rw (free_yes f n c e) (elim (hit_cases a c) [
    | inl h ↦ omega (arith, h.1, occ_not a (free_from f n (suc c)) (λ m. omega (arith, (from_mem f n (suc c) a m).0)))
    | inr h ↦ omega (arith, from_once f n (suc c) a)
  ])
]

pub free_mem : (G : Geometry) (f : ℕ → ℕ) (a : ℕ) → a ∈ free_clusters G.last f → Link G.last a × (f a ≡ 0)
unfolding free_clusters
free_mem G f a m = let r = from_mem f (G.last - 1) 2 a m in ((r.0, omega arith), r.2)

pub free_once : (G : Geometry) (f : ℕ → ℕ) → Once (free_clusters G.last f)
unfolding free_clusters
free_once G f a = from_once f (G.last - 1) 2 a

-- ---- the count of the table's zeros is the length of that list

from_length : (f : ℕ → ℕ) (n c : ℕ) → length (free_from f n c) ≡ tally (passes_at freeb f) n c
unfolding tally passes_at
from_length f zero c = ap length (free_nil f c)
from_length f (suc n) c = elim (ℕ_discrete (f c) 0) [
  | yes h ↦ omega (arith, ap length (free_yes f n c h), from_length f n (suc c), free_one (f c) h)
  | no h ↦ omega (arith, ap length (free_no f n c h), from_length f n (suc c), free_none (f c) h)
]

pub free_length : (G : Geometry) (f : ℕ → ℕ) → length (free_clusters G.last f) ≡ value_count freeb G.last f
unfolding free_clusters value_count passes_at
free_length G f = from_length f (G.last - 1) 2

-- ---- the lowest free cluster is the head, and taking it leaves the rest

-- two tables that are 0 at the same clusters have the same list
pub free_same : (f g : ℕ → ℕ) (n c : ℕ) → ((a : ℕ) → c ≤ a → (g a ≡ 0) ↔ (f a ≡ 0)) → free_from g n c ≡ free_from f n c
free_same f g zero c h = free_nil g c ∙ sym (free_nil f c)
free_same f g (suc n) c h =
    let t : free_from g n (suc c) ≡ free_from f n (suc c) = free_same f g n (suc c) (λ a k. h a (omega arith)) in
    let e : (g c ≡ 0) ↔ (f c ≡ 0) = h c (omega arith) in
    elim (ℕ_discrete (f c) 0) [
      | yes z ↦ free_yes g n c (e.1 z) ∙ ap (λ (r : List ℕ). c ∷ r) t ∙ sym (free_yes f n c z)
      | no nz ↦ free_no g n c (λ z. nz (e.0 z)) ∙ t ∙ sym (free_no f n c nz)
    ]

from_next : (f : ℕ → ℕ) (n c d v : ℕ) (ds : List ℕ) → v ≢ 0 → free_from f n c ≡ d ∷ ds → free_from (put f d v) n c ≡ ds
from_next f zero c d v ds nv e = absurd (let z : ◌≡◌ {A = ℕ} 0 1 = cc (free_nil f c) in omega arith)
from_next f (suc n) c d v ds nv e = elim (ℕ_discrete (f c) 0) [
  | yes z ↦
      let p : c ∷ free_from f n (suc c) ≡ d ∷ ds = sym (free_yes f n c z) ∙ e in
      let q : c ≡ d = cc in
      let r : free_from f n (suc c) ≡ ds = cc in
      free_no (put f d v) n c (λ k. nv (sym (put_same f d v c q) ∙ k))
      ∙ free_same f (put f d v) n (suc c) (λ a k. let o : put f d v a ≡ f a = put_other f d v a (omega arith) in (λ y. sym o ∙ y, λ y. o ∙ y)) ∙ r
  | no nz ↦
      let p : free_from f n (suc c) ≡ d ∷ ds = sym (free_no f n c nz) ∙ e in
      let m : suc c ≤ d = (from_mem f n (suc c) d (rw p (inl refl))).0 in
      free_no (put f d v) n c (λ k. nz (sym (put_other f d v c (omega arith)) ∙ k)) ∙ from_next f n (suc c) d v ds nv p
]

-- ---- the head is the lowest

from_head : (f : ℕ → ℕ) (n c d : ℕ) (ds : List ℕ) → free_from f n c ≡ d ∷ ds → (a : ℕ) → c ≤ a → a < d → f a ≢ 0
from_head f zero c d ds e a k l = absurd (let z : ◌≡◌ {A = ℕ} 0 1 = cc (free_nil f c) in omega arith)
from_head f (suc n) c d ds e a k l = elim (ℕ_discrete (f c) 0) [
  | yes z ↦
      let p : c ∷ free_from f n (suc c) ≡ d ∷ ds = sym (free_yes f n c z) ∙ e in
      let q : c ≡ d = cc in
      absurd (omega arith)
  | no nz ↦ elim (ℕ_discrete a c) [
    | yes q ↦ λ z. nz (ap f (sym q) ∙ z)
    | no q ↦ from_head f n (suc c) d ds (sym (free_no f n c nz) ∙ e) a (omega arith) l
  ]
]

-- ---- what may be taken

pub lowest_takable : (G : Geometry) (f : ℕ → ℕ) (n : ℕ) → Takable G.last f (take n (free_clusters G.last f))
lowest_takable G f n = record {
  range = λ a m. (free_mem G f a (mem_take n (free_clusters G.last f) a m)).0;
  unused = λ a m. (free_mem G f a (mem_take n (free_clusters G.last f) a m)).1;
  each = λ a. omega (arith, occ_take n (free_clusters G.last f) a, free_once G f a);
}
