-- The definitions in the form of the code's needs.
use Rattle.std.specs.Prelude.{ℕ, zero, suc, ◌+◌, ◌-◌, ◌≤◌, ◌<◌, Bool, true, false, cond, not, List, [], ◌∷◌, Option, Some, None, ◌≡◌, eqb, refl, leb, ltb, length, get_or, take, drop, unwrap_or, ◌&&◌, ◌++◌, map}
use Rattle.std.specs.List.{position, position_or_len}
use Rattle.std.proofs.Common.{arith, ap, subst, ext_get_or, le_antisymm, ltb-true, sym, ◌∙◌, ltb-false, le-leb, add-one, length-drop, drop_of_length-le, take_all}
use Rattle.std.specs.Array.{IsFromFnResultFrom, IsFromFnResult}
use Rattle.std.specs.Fn.{Mut, Called}
use Rattle.std.proofs.lemmas.List.Sums.{prefix_len-le-length}
use Rattle.std.proofs.lemmas.List.Recursion.{is_position_or_len}
use Rattle.names.specs.Alphabet.{within, capital}
use Rattle.names.specs.Spelling.{dot, filled}
use Rattle.names.specs.Reading.{before_first, after_first, fitting}
use Rattle.names.specs.Aids.Bytes.{filled_byte}
use Rattle.std.proofs.Math.Decide.{ℕ_discrete}
use Rattle.names.proofs.Laws.Parts.{take_before, drop_after, length_both, both_at}
use Rattle.names.specs.Aids.Reading.{answer}

-- ---- the first dot

-- where the first d stands, and the length where there is none
first_is : (d : ℕ) (s : List ℕ) → length (before_first d s) ≡ position_or_len (λ c. eqb c d) s
unfolding before_first
first_is d s = is_position_or_len (λ t. length (before_first d t)) (λ c. eqb c d) refl (λ c cs. go c cs (eqb c d)) s
  where
    go : (c : ℕ) (cs : List ℕ) (b : Bool) → length (cond b [] (c ∷ before_first d cs)) ≡ cond b 0 (1 + length (before_first d cs))
    go c cs true = refl
    go c cs false = omega arith

-- what `position` answers, by the place of the first dot
place_or_none : (s : List ℕ) → position (λ c. eqb c dot) s ≡ cond (ltb (length (before_first dot s)) (length s)) (Some (length (before_first dot s))) None
place_or_none s = rw (first_is dot s) refl

before_short : (s : List ℕ) → length (before_first dot s) ≤ length s
before_short s = rw (first_is dot s) (prefix_len-le-length (λ (c : ℕ). not (eqb c dot)) s)

module _ (s : List ℕ) (o : Option ℕ) (is : o ≡ position (λ c. eqb c dot) s) where
  abbrev at : ℕ
  at = length (before_first dot s)

  some_place : (i : ℕ) → o ≡ Some i → (i < length s) × (i ≡ length (before_first dot s))
  some_place i e = go (ltb at (length s)) refl (sym e ∙ is ∙ place_or_none s)
    where
      go : (b : Bool) → ltb at (length s) ≡ b → Some i ≡ cond b (Some at) None → (i < length s) × (i ≡ at)
      go true h f = let k : i ≡ at = cc in (omega (arith, ltb-true at (length s) h), k)
      go false h f = absurd (cc)

  no_place : o ≡ None → length s ≤ length (before_first dot s)
  no_place e = go (ltb at (length s)) refl (sym e ∙ is ∙ place_or_none s)
    where
      go : (b : Bool) → ltb at (length s) ≡ b → None ≡ cond b (Some at) None → length s ≤ at
      go true h f = absurd (cc)
      go false h f = ltb-false at (length s) h

pub dot_place : (s : List ℕ) (o : Option ℕ) (r : ℕ) → o ≡ position (λ c. eqb c dot) s → r ≡ unwrap_or o (length s) → r ≡ length (before_first dot s)
dot_place s (Some i) r is e = e ∙ (some_place s (Some i) is i refl).1
dot_place s None r is e = e ∙ le_antisymm (no_place s None is refl) (before_short s)

module _ (s : List ℕ) (o : Option ℕ) (is : o ≡ position (λ c. eqb c dot) s) where
  pub front_is : (i : ℕ) → o ≡ Some i → take i s ≡ before_first dot s
  front_is i e = rw (some_place s o is i e).1 (take_before dot s)

  pub rest_is : (i : ℕ) → o ≡ Some i → take (length s - (i + 1)) (drop (i + 1) s) ≡ after_first dot s
  rest_is i e =
      let at : i ≡ length (before_first dot s) = (some_place s o is i e).1 in
      let rest : drop (i + 1) s ≡ after_first dot s = rw (at, add-one (length (before_first dot s))) (drop_after dot s) in
      take_all (length s - (i + 1)) (drop (i + 1) s) (simp length-drop (omega arith)) ∙ rest

  pub whole_is : o ≡ None → s ≡ before_first dot s
  whole_is e = sym (take_all (length (before_first dot s)) s (no_place s o is e)) ∙ take_before dot s

  pub nothing_is : o ≡ None → [] ≡ after_first dot s
  nothing_is e = sym (drop_of_length-le s {i = suc (length (before_first dot s))} (omega (arith, no_place s o is e))) ∙ drop_after dot s

-- both parts, where there is a dot and where there is none
pub ruleset cut_at_dot = (front_is, rest_is, whole_is, nothing_is)

-- ---- an array made by a closure that changes nothing

module _ {F : Type 0} (g : Mut F (ℕ × Unit {0}) ℕ) (f : F) (ys : List ℕ) (byte : ℕ → ℕ) (calls : (i y : ℕ) (q : F) → Called g f (i, tt) y q → (q ≡ f) × (y ≡ byte i)) where
  each_from : (i n : ℕ) → IsFromFnResultFrom g f ys i n → (k : ℕ) → i ≤ k → k < i + n → get_or ys k 0 ≡ byte k
  each_from i zero h k a b = absurd (omega arith)
  each_from i (suc n) (q, y, el, called, rest) k a b =
      let one = calls i y q called in
      elim (ℕ_discrete k i) [
        | yes e ↦ rw e (el.1 0 ∙ one.1)
        | no e ↦ each_from (i + 1) n (subst (λ p. IsFromFnResultFrom g p ys (i + 1) n) one.0 rest) k (omega arith) (omega arith)
      ]

  -- eleven such bytes are those of two parts
  module _ (filler filler' : ℕ) (base ext : List ℕ) (is : byte ≡ (λ i. cond (ltb i 8) (filled_byte filler base i) (filled_byte filler' ext (i - 8)))) where
    pub made_eleven : length base ≤ 8 → length ext ≤ 3 → IsFromFnResult g f ys 11 → ys ≡ filled 8 filler (map capital base) ++ filled 3 filler' (map capital ext)
    made_eleven eight three made =
        let long : length (filled 8 filler (map capital base) ++ filled 3 filler' (map capital ext)) ≡ 11 = length_both filler filler' base ext eight three in
        ext_get_or 0 ys (filled 8 filler (map capital base) ++ filled 3 filler' (map capital ext)) (made.long ∙ sym long)
        (λ k h.
        let below : k < 11 = omega (arith, made.long) in
        each_from 0 11 made.each k (omega arith) below ∙ ap (λ b. b k) is ∙ sym (both_at filler filler' base ext eight k below))

-- ---- the parts

module _ (good : List ℕ → Bool) (base ext : List ℕ) where
  -- each part has as many characters as it may have, and is good
  fitting_each : fitting good base ext ≡ ((within 1 8 (length base) && good base) && (within 0 3 (length ext) && good ext))
  unfolding fitting
  fitting_each = rw (le-leb 0 (length ext) (omega arith)) (go (leb 1 (length base)) (leb (length base) 8) (leb (length ext) 3) (good base) (good ext))
    where
      go : (a b c d e : Bool) → (a && (b && (c && (d && e)))) ≡ (((a && b) && d) && (c && e))
      go false b c d e = refl
      go true false c d e = refl
      go true true c true e = refl
      go true true true false e = refl
      go true true false false e = refl

module _ (good : List ℕ → Bool) (bytes : List ℕ → List ℕ → List ℕ) (s base ext : List ℕ) (is_base : base ≡ before_first dot s) (is_ext : ext ≡ after_first dot s) where
  pub base_refused : (r : Option (List ℕ)) → false ≡ (within 1 8 (length base) && good base) → r ≡ None → r ≡ answer good bytes s
  base_refused r e is = is ∙ rw (← is_base, ← is_ext, fitting_each good base ext, ← e)

  module _ (fits : true ≡ (within 1 8 (length base) && good base)) where
    pub ext_refused : (r : Option (List ℕ)) → false ≡ (within 0 3 (length ext) && good ext) → r ≡ None → r ≡ answer good bytes s
    ext_refused r e is = is ∙ rw (← is_base, ← is_ext, fitting_each good base ext, ← fits, ← e)

    pub answered : (n : List ℕ) → true ≡ (within 0 3 (length ext) && good ext) → n ≡ bytes base ext → Some n ≡ answer good bytes s
    answered n e is = rw (← is_base, ← is_ext, fitting_each good base ext, ← fits, ← e, is)
