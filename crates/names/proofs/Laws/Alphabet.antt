-- What a character of the alphabet is not, and what its capital is.
use Rattle.std.specs.Prelude.{ℕ, zero, suc, ◌-◌, ◌≤◌, ◌<◌, Bool, true, false, cond, ◌||◌, List, [], ◌∷◌, map, ◌≢◌, ◌≡◌, refl, eqb, leb, ltb, length, get_or}
use Rattle.std.proofs.Common.{arith, true≢false, inl, inr, sym, ◌∙◌, ap, eqb-true, ltb-true, leb-true, le-leb}
use Rattle.std.proofs.lemmas.Bool.{or_cases}
use Rattle.names.specs.Alphabet.{within, large_letter, small_letter, digit, signs, among, plain, allowed, capital}
use Rattle.names.specs.Spelling.{every}
use Rattle.names.proofs.Laws.Tests.{and_left, and_right}

-- a test tells two characters apart
pub told : (p : ℕ → Bool) (c x : ℕ) → p c ≡ true → p x ≡ false → c ≢ x
told p c x t f e = true≢false (sym t ∙ ap p e ∙ f)

within_low : (low high c : ℕ) → within low high c ≡ true → low ≤ c
within_low low high c e = leb-true low c (and_left (leb low c) (leb c high) e)

within_high : (low high c : ℕ) → within low high c ≡ true → c ≤ high
within_high low high c e = leb-true c high (and_right (leb low c) (leb c high) e)

among_below : (n c : ℕ) (xs : List ℕ) → every (λ (x : ℕ). ltb x n) xs ≡ true → among xs c ≡ true → c < n
unfolding every
among_below n c [] h e = absurd (true≢false (sym e))
among_below n c (x ∷ xs) h e = elim (or_cases (eqb c x) (among xs c) e) [
  | inl p ↦ let q : c ≡ x = eqb-true c x p in let k : x < n = ltb-true x n (and_left (ltb x n) (every (λ (y : ℕ). ltb y n) xs) h) in omega arith
  | inr p ↦ among_below n c xs (and_right (ltb x n) (every (λ (y : ℕ). ltb y n) xs) h) p
]

pub plain_below : (c : ℕ) → plain c ≡ true → c < 128
unfolding plain every
plain_below c e = elim (or_cases (large_letter c) (digit c || among signs c) e) [
  | inl p ↦ let h : c ≤ 0x5A = within_high 0x41 0x5A c p in omega arith
  | inr q ↦ elim (or_cases (digit c) (among signs c) q) [
    | inl p ↦ let h : c ≤ 0x39 = within_high 0x30 0x39 c p in omega arith
    | inr p ↦ among_below 128 c signs refl p
  ]
]

-- the capital of what a caller may write is plain
pub capital_plain : (c : ℕ) → allowed c ≡ true → plain (capital c) ≡ true
unfolding allowed capital plain
capital_plain c e = go (small_letter c) refl e
  where
    go : (b : Bool) → small_letter c ≡ b → (b || plain c) ≡ true → plain (cond b (c - 32) c) ≡ true
    go false s p = p
    go true s p =
        let h : 0x61 ≤ c = within_low 0x61 0x7A c s in
        let k : c ≤ 0x7A = within_high 0x61 0x7A c s in
        rw (le-leb 0x41 (c - 32) (omega arith), le-leb (c - 32) 0x5A (omega arith))

-- ---- of a whole list

pub every_map : (p q : ℕ → Bool) (f : ℕ → ℕ) → ((c : ℕ) → p c ≡ true → q (f c) ≡ true) → (s : List ℕ) → every p s ≡ true → every q (map f s) ≡ true
unfolding every
every_map p q f h [] e = refl
every_map p q f h (c ∷ cs) e = rw (h c (and_left (p c) (every p cs) e), every_map p q f h cs (and_right (p c) (every p cs) e))

pub every_also : (p q : ℕ → Bool) → ((c : ℕ) → p c ≡ true → q c ≡ true) → (s : List ℕ) → every p s ≡ true → every q s ≡ true
unfolding every
every_also p q h [] e = refl
every_also p q h (c ∷ cs) e = rw (h c (and_left (p c) (every p cs) e), every_also p q h cs (and_right (p c) (every p cs) e))

pub every_at : (p : ℕ → Bool) (s : List ℕ) (i : ℕ) → every p s ≡ true → i < length s → p (get_or s i 0) ≡ true
unfolding every
every_at p [] i e h = absurd (omega arith)
every_at p (c ∷ cs) zero e h = and_left (p c) (every p cs) e
every_at p (c ∷ cs) (suc i) e h = every_at p cs i (and_right (p c) (every p cs) e) (omega arith)
