-- What stands before and after a character, and what is filled.
use Rattle.std.specs.Prelude.{ℕ, suc, ◌+◌, ◌-◌, ◌≤◌, ◌<◌, Bool, cond, ◌⊎◌, ◌≡◌, ltb, length, get_or, take, drop, replicate}
use Rattle.std.proofs.Common.{arith, inl, inr, ◌∙◌, length-append, get_or-append-add}
use Rattle.std.proofs.Math.Decide.{dec_lt}
use Rattle.std.proofs.Math.Bool.{true, false}
use mathlib.Core.List.{List, [], ◌∷◌, ◌++◌, map}
use Rattle.std.proofs.Math.Path.{refl, ap}
use Rattle.std.proofs.Math.Dec.{eqb}
use Rattle.std.proofs.lemmas.List.{length-map, length-replicate, get_or-replicate}
use Rattle.std.proofs.Math.ListN.{get_or-append, get_or-map}
use borrow.Author.Tests.{eqb-true, ne_eqb, lt-ltb, le-ltb}
use Rattle.names.specs.Alphabet.{allowed, capital}
use Rattle.names.specs.Spelling.{every, Parts, space, filled, eleven, without_last}
use Rattle.names.specs.Reading.{before_first, after_first}
use Rattle.names.specs.Aids.Bytes.{filled_byte, name_byte}
use Rattle.names.proofs.Laws.Tests.{and_left, and_right}
use Rattle.names.proofs.Laws.Alphabet.{told}

-- ---- cut at the first d

pub take_before : (d : ℕ) (s : List ℕ) → take (length (before_first d s)) s ≡ before_first d s
unfolding before_first
take_before d [] = refl
take_before d (c ∷ cs) = go (eqb c d) (take_before d cs)
  where
    go : (b : Bool) → take (length (before_first d cs)) cs ≡ before_first d cs → take (length (cond b [] (c ∷ before_first d cs))) (c ∷ cs) ≡ cond b [] (c ∷ before_first d cs)
    go true h = refl
    go false h = ap (λ (l : List ℕ). c ∷ l) h

pub drop_after : (d : ℕ) (s : List ℕ) → drop (suc (length (before_first d s))) s ≡ after_first d s
unfolding before_first after_first
drop_after d [] = refl
drop_after d (c ∷ cs) = go (eqb c d) (drop_after d cs)
  where
    go : (b : Bool) → drop (suc (length (before_first d cs))) cs ≡ after_first d cs → drop (length (cond b [] (c ∷ before_first d cs))) cs ≡ cond b cs (after_first d cs)
    go true h = refl
    go false h = h

-- s is cut there, or whole
pub cut : (d : ℕ) (s : List ℕ) → ((s ≡ before_first d s) × (after_first d s ≡ [])) ⊎ (s ≡ before_first d s ++ (d ∷ after_first d s))
unfolding before_first after_first
cut d [] = inl (refl, refl)
cut d (c ∷ cs) = go (eqb c d) refl (cut d cs)
  where
    go : (b : Bool) → eqb c d ≡ b → ((cs ≡ before_first d cs) × (after_first d cs ≡ [])) ⊎ (cs ≡ before_first d cs ++ (d ∷ after_first d cs))
        → ((c ∷ cs ≡ cond b [] (c ∷ before_first d cs)) × (cond b cs (after_first d cs) ≡ [])) ⊎ (c ∷ cs ≡ cond b [] (c ∷ before_first d cs) ++ (d ∷ cond b cs (after_first d cs)))
    go true e h = inr (ap (λ (x : ℕ). x ∷ cs) (eqb-true c d e))
    go false e (inl h) = inl (ap (λ (l : List ℕ). c ∷ l) h.0, h.1)
    go false e (inr h) = inr (ap (λ (l : List ℕ). c ∷ l) h)

-- a run without d stands before the first d
module _ (p : ℕ → Bool) (d : ℕ) (never : p d ≡ false) where
  pub before_skip : (b r : List ℕ) → every p b ≡ true → before_first d (b ++ r) ≡ b ++ before_first d r
  unfolding before_first every
  before_skip [] r e = refl
  before_skip (c ∷ cs) r e =
      let n : eqb c d ≡ false = ne_eqb c d (told p c d (and_left (p c) (every p cs) e) never) in
      rw (n, before_skip cs r (and_right (p c) (every p cs) e))

  pub after_skip : (b r : List ℕ) → every p b ≡ true → after_first d (b ++ r) ≡ after_first d r
  unfolding after_first every
  after_skip [] r e = refl
  after_skip (c ∷ cs) r e =
      let n : eqb c d ≡ false = ne_eqb c d (told p c d (and_left (p c) (every p cs) e) never) in
      rw n (after_skip cs r (and_right (p c) (every p cs) e))

  pub without_none : (t : List ℕ) → every p t ≡ true → without_last d t ≡ t
  unfolding without_last every
  without_none [] e = refl
  without_none (c ∷ []) e = rw (ne_eqb c d (told p c d (and_left (p c) true e) never))
  without_none (c ∷ (f ∷ cs)) e = ap (λ (l : List ℕ). c ∷ l) (without_none (f ∷ cs) (and_right (p c) (every p (f ∷ cs)) e))

-- ---- filled

pub length_filled : (n f : ℕ) (t : List ℕ) → length t ≤ n → length (filled n f t) ≡ n
length_filled n f t h = simp (length-append, length-replicate) (omega arith)

-- what stands at i of two lists, the first of which has n
append_at : (x y : List ℕ) (n i : ℕ) → length x ≡ n → get_or (x ++ y) i 0 ≡ cond (ltb i n) (get_or x i 0) (get_or y (i - n) 0)
append_at x y n i l = elim (dec_lt i n) [
  | yes p ↦ rw (lt-ltb i n p) (get_or-append x y 0 i (omega arith))
  | no p ↦ let e : length x + (i - n) ≡ i = omega arith in rw (le-ltb i n (omega arith)) (rw e at (get_or-append-add x y (i - n) 0))
]

filled_at : (n f : ℕ) (t : List ℕ) (i : ℕ) → i < n → get_or (filled n f (map capital t)) i 0 ≡ filled_byte f t i
unfolding capital
filled_at n f t i h =
    let l : length (map capital t) ≡ length t = length-map t capital in
    append_at (map capital t) (replicate (n - length (map capital t)) f) (length t) i l ∙ elim (dec_lt i (length t)) [
      | yes p ↦ rw (lt-ltb i (length t) p) (get_or-map capital t i 0)
      | no p ↦ rw (le-ltb i (length t) (omega arith)) (get_or-replicate (n - length (map capital t)) (i - length t) f 0 (omega arith))
    ]

-- two parts in capitals, the one filled by f, the other by g
module _ (f g : ℕ) (base ext : List ℕ) (eight : length base ≤ 8) where
  front : length (filled 8 f (map capital base)) ≡ 8
  front = length_filled 8 f (map capital base) (rw (length-map base capital) eight)

  pub length_both : length ext ≤ 3 → length (filled 8 f (map capital base) ++ filled 3 g (map capital ext)) ≡ 11
  length_both three =
      let e : length (filled 3 g (map capital ext)) ≡ 3 = length_filled 3 g (map capital ext) (rw (length-map ext capital) three) in
      length-append (filled 8 f (map capital base)) (filled 3 g (map capital ext)) ∙ (omega (arith, front))

  pub both_at : (i : ℕ) → i < 11
      → get_or (filled 8 f (map capital base) ++ filled 3 g (map capital ext)) i 0 ≡ cond (ltb i 8) (filled_byte f base i) (filled_byte g ext (i - 8))
  both_at i m = append_at (filled 8 f (map capital base)) (filled 3 g (map capital ext)) 8 i front ∙ elim (dec_lt i 8) [
    | yes p ↦ rw (lt-ltb i 8 p) (filled_at 8 f base i p)
    | no p ↦ rw (le-ltb i 8 (omega arith)) (filled_at 3 g ext (i - 8) (omega arith))
  ]

-- ---- the eleven bytes of a name: both parts are filled by spaces

module _ (base ext : List ℕ) (p : Parts (every allowed) base ext) where
  pub length_eleven : length (eleven base ext) ≡ 11
  unfolding eleven
  length_eleven = length_both space space base ext p.eight p.three

  pub eleven_at : (i : ℕ) → i < 11 → get_or (eleven base ext) i 0 ≡ name_byte base ext i
  unfolding eleven
  eleven_at = both_at space space base ext p.eight
