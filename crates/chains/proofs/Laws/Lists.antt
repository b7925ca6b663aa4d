-- Membership and occurrences: each is read from the other.
use Rattle.std.specs.Prelude.{ℕ, zero, suc, ◌+◌, ◌≤◌, ◌<◌, ◌≡◌, refl, ◌≢◌, ◌⊎◌, List, [], ◌∷◌, ◌++◌, length, get_or, take}
use Rattle.std.proofs.Common.{arith, sym, ap, subst, inl, inr, eq-eqb, ne_eqb}
use Rattle.std.proofs.Math.Decide.{ℕ_discrete}
use Rattle.chains.specs.Sums.{bit}
use Rattle.chains.specs.Lists.{◌∈◌}
use Rattle.chains.specs.Aids.Lists.{last_of, hit, occ, Once, joined}

pub hit_same : (a x : ℕ) → a ≡ x → hit a x ≡ 1
unfolding hit
hit_same a x e = ap bit (eq-eqb a x e)

pub hit_other : (a x : ℕ) → a ≢ x → hit a x ≡ 0
unfolding hit
hit_other a x n = ap bit (ne_eqb a x n)

pub hit_cases : (a x : ℕ) → ((a ≡ x) × (hit a x ≡ 1)) ⊎ ((a ≢ x) × (hit a x ≡ 0))
hit_cases a x = go (ℕ_discrete a x)
  where
    go : Dec (a ≡ x) → ((a ≡ x) × (hit a x ≡ 1)) ⊎ ((a ≢ x) × (hit a x ≡ 0))
    go (yes e) = inl (e, hit_same a x e)
    go (no n) = inr (n, hit_other a x n)

pub mem_occ : (a : ℕ) (xs : List ℕ) → a ∈ xs → 0 < occ a xs
unfolding occ
mem_occ a [] m = absurd m
mem_occ a (x ∷ xs) (inl e) = omega (arith, hit_same a x e)
mem_occ a (x ∷ xs) (inr m) = omega (arith, mem_occ a xs m)

pub occ_mem : (a : ℕ) (xs : List ℕ) → 0 < occ a xs → a ∈ xs
unfolding occ
occ_mem a [] p = absurd (omega arith)
occ_mem a (x ∷ xs) p = elim (hit_cases a x) [
  | inl h ↦ inl h.0
  | inr h ↦ inr (occ_mem a xs (omega arith))
]

pub dec_mem : (a : ℕ) (xs : List ℕ) → Dec (a ∈ xs)
dec_mem a xs = elim (ℕ_discrete (occ a xs) 0) [
  | yes e ↦ no (λ m. omega (arith, mem_occ a xs m))
  | no n ↦ yes (occ_mem a xs (omega arith))
]

pub occ_not : (a : ℕ) (xs : List ℕ) → ¬ (a ∈ xs) → occ a xs ≡ 0
occ_not a xs n = elim (ℕ_discrete (occ a xs) 0) [ yes e ↦ e | no k ↦ absurd (n (occ_mem a xs (omega arith))) ]

pub occ_append : (a : ℕ) (xs ys : List ℕ) → occ a (xs ++ ys) ≡ occ a xs + occ a ys
unfolding occ
occ_append a [] ys = omega arith
occ_append a (x ∷ xs) ys = omega (arith, occ_append a xs ys)

pub mem_left : {A : Type 0} (a : A) (xs ys : List A) → a ∈ xs → a ∈ (xs ++ ys)
mem_left a [] ys m = absurd m
mem_left a (x ∷ xs) ys (inl e) = inl e
mem_left a (x ∷ xs) ys (inr m) = inr (mem_left a xs ys m)

pub mem_right : {A : Type 0} (a : A) (xs ys : List A) → a ∈ ys → a ∈ (xs ++ ys)
mem_right a [] ys m = m
mem_right a (x ∷ xs) ys m = inr (mem_right a xs ys m)

pub mem_append : {A : Type 0} (a : A) (xs ys : List A) → a ∈ (xs ++ ys) → (a ∈ xs) ⊎ (a ∈ ys)
mem_append a [] ys m = inr m
mem_append a (x ∷ xs) ys (inl e) = inl (inl e)
mem_append a (x ∷ xs) ys (inr m) = elim (mem_append a xs ys m) [ inl h ↦ inl (inr h) | inr h ↦ inr h ]

-- ---- lists without repetition

pub once_tail : (x : ℕ) (xs : List ℕ) → Once (x ∷ xs) → Once xs
unfolding occ
once_tail x xs o a = omega (arith, o a)

pub once_head : (x : ℕ) (xs : List ℕ) → Once (x ∷ xs) → ¬ (x ∈ xs)
unfolding occ
once_head x xs o m = omega (arith, o x, hit_same x x refl, mem_occ x xs m)

pub index_mem : (cs : List ℕ) (i : ℕ) → i < length cs → get_or cs i 0 ∈ cs
index_mem [] i l = absurd (omega arith)
index_mem (x ∷ xs) zero l = inl refl
index_mem (x ∷ xs) (suc i) l = inr (index_mem xs i (omega arith))

pub index_same : (cs : List ℕ) → Once cs → (i j : ℕ) → i < length cs → j < length cs → get_or cs i 0 ≡ get_or cs j 0 → i ≡ j
index_same [] o i j k l e = absurd (omega arith)
index_same (x ∷ xs) o zero zero k l e = refl
index_same (x ∷ xs) o zero (suc j) k l e = absurd (once_head x xs o (rw e (index_mem xs j (omega arith))))
index_same (x ∷ xs) o (suc i) zero k l e = absurd (once_head x xs o (rw (sym e) (index_mem xs i (omega arith))))
index_same (x ∷ xs) o (suc i) (suc j) k l e = ap suc (index_same xs (once_tail x xs o) i j (omega arith) (omega arith) e)

-- ---- the first n, the last

pub mem_take : (n : ℕ) (xs : List ℕ) (a : ℕ) → a ∈ take n xs → a ∈ xs
mem_take zero xs a m = absurd m
mem_take (suc n) [] a m = absurd m
mem_take (suc n) (x ∷ xs) a (inl e) = inl e
mem_take (suc n) (x ∷ xs) a (inr m) = inr (mem_take n xs a m)

pub occ_take : (n : ℕ) (xs : List ℕ) (a : ℕ) → occ a (take n xs) ≤ occ a xs
unfolding occ
occ_take zero xs a = omega arith
occ_take (suc n) [] a = omega arith
occ_take (suc n) (x ∷ xs) a = omega (arith, occ_take n xs a)

pub last_mem : (c : ℕ) (cs : List ℕ) → last_of c cs ∈ (c ∷ cs)
unfolding last_of
last_mem c [] = inl refl
last_mem c (d ∷ ds) = inr (last_mem d ds)

pub last_index : (c : ℕ) (cs : List ℕ) → get_or (c ∷ cs) (length cs) 0 ≡ last_of c cs
unfolding last_of
last_index c [] = refl
last_index c (d ∷ ds) = last_index d ds

-- ---- lists one behind the other

pub mem_joined : {A B : Type 0} (χ : A → List B) (is : List A) (c : B) → c ∈ joined χ is → (i : A) × (i ∈ is) × (c ∈ χ i)
unfolding joined
mem_joined χ [] c m = absurd m
mem_joined χ (i ∷ is) c m = elim (mem_append c (χ i) (joined χ is) m) [
  | inl k ↦ (i, inl refl, k)
  | inr k ↦ let r = mem_joined χ is c k in (r.0, inr r.1, r.2)
]

pub joined_mem : {A B : Type 0} (χ : A → List B) (is : List A) (c : B) (i : A) → i ∈ is → c ∈ χ i → c ∈ joined χ is
unfolding joined
joined_mem χ [] c i k m = absurd k
joined_mem χ (j ∷ is) c i (inl e) m = mem_left c (χ j) (joined χ is) (subst (λ x. c ∈ χ x) e m)
joined_mem χ (j ∷ is) c i (inr k) m = mem_right c (χ j) (joined χ is) (joined_mem χ is c i k m)
