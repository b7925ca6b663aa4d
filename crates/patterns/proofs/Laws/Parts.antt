-- A part without its last `*`.
use Rattle.std.specs.Prelude.{ℕ, suc, ◌-◌, ◌<◌, Bool, true, false, cond, not, List, [], ◌∷◌, ◌≡◌, refl, eqb, length, get_or, take}
use Rattle.std.proofs.Common.{arith, sym, ◌∙◌, ap, take_all, eqb-true, ne_eqb}
use Rattle.names.specs.Alphabet.{plain, allowed}
use Rattle.names.specs.Spelling.{dot, every, without_last}
use Rattle.names.specs.Aids.Reading.{undotted}
use Rattle.names.proofs.Laws.Tests.{and_left, and_right}
use Rattle.names.proofs.Laws.Alphabet.{told, every_also}
use Rattle.patterns.specs.Patterns.{star, pattern_sign, pattern_part, starred}

-- ---- without a last `*`

take_core : (t : List ℕ) → take (length (without_last star t)) t ≡ without_last star t
unfolding without_last
take_core [] = refl
take_core (c ∷ []) = go (eqb c star)
  where
    go : (b : Bool) → take (length (cond b [] (c ∷ []))) (c ∷ []) ≡ cond b [] (c ∷ [])
    go true = refl
    go false = refl
take_core (c ∷ (d ∷ cs)) = ap (λ (l : List ℕ). c ∷ l) (take_core (d ∷ cs))

length_core : (t : List ℕ) → length (without_last star t) ≡ cond (starred t) (length t - 1) (length t)
unfolding without_last
length_core [] = refl
length_core (c ∷ []) = go (eqb c star)
  where
    go : (b : Bool) → length (cond b [] (c ∷ [])) ≡ cond b 0 1
    go true = refl
    go false = refl
length_core (c ∷ (d ∷ cs)) =
    let k : suc (suc (length cs)) - 1 ≡ suc (length cs) = omega arith in
    let m : suc (length cs) - 1 ≡ length cs = omega arith in
    rw k (go (eqb (get_or (d ∷ cs) (length cs) 0) star) (rw m at (length_core (d ∷ cs))))
  where
    go : (b : Bool) → length (without_last star (d ∷ cs)) ≡ cond b (length cs) (suc (length cs))
        → suc (length (without_last star (d ∷ cs))) ≡ cond b (suc (length cs)) (suc (suc (length cs)))
    go true e = ap suc e
    go false e = ap suc e

pub core_front : (t : List ℕ) → starred t ≡ true → take (length t - 1) t ≡ without_last star t
core_front t e = let n : length (without_last star t) ≡ length t - 1 = length_core t ∙ rw e in rw (← n) (take_core t)

pub core_all : (t : List ℕ) → starred t ≡ false → t ≡ without_last star t
core_all t e = let n : length (without_last star t) ≡ length t = length_core t ∙ rw e in sym (take_all (length (without_last star t)) t (omega arith)) ∙ take_core t

pub core_none : (t : List ℕ) → length t < 1 → t ≡ without_last star t
core_none [] h = core_all [] refl
core_none (c ∷ cs) h = absurd (omega arith)

-- the part that is left, with a last `*` and without
pub ruleset cores = (core_front, core_all, core_none)

-- ---- no part of a pattern has a dot

sign_no_dot : pattern_sign dot ≡ false
unfolding pattern_sign allowed plain
sign_no_dot = refl

-- what holds of all but a last `*`, and of `*`, holds of all
every_last : (p : ℕ → Bool) → p star ≡ true → (t : List ℕ) → every p (without_last star t) ≡ true → every p t ≡ true
unfolding every without_last
every_last p h [] e = refl
every_last p h (c ∷ []) e = go (eqb c star) refl e
  where
    go : (b : Bool) → eqb c star ≡ b → every p (cond b [] (c ∷ [])) ≡ true → every p (c ∷ []) ≡ true
    go true q f = rw (eqb-true c star q, h)
    go false q f = f
every_last p h (c ∷ (d ∷ cs)) e =
    rw (and_left (p c) (every p (without_last star (d ∷ cs))) e)
    (every_last p h (d ∷ cs) (and_right (p c) (every p (without_last star (d ∷ cs))) e))

pub part_undotted : (t : List ℕ) → pattern_part t ≡ true → undotted t ≡ true
unfolding pattern_part
part_undotted t e =
    every_last (λ (c : ℕ). not (eqb c dot)) refl t
    (every_also pattern_sign (λ (c : ℕ). not (eqb c dot)) (λ c s. rw (ne_eqb c dot (told pattern_sign c dot s sign_no_dot))) (without_last star t) e)
