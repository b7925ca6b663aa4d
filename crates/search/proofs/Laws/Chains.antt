-- A chain over a range of numbers answers as `lowest` does, where its closure computes the test and stays as it was. An answer is
--   lowest_from_find _ c.find.ensures.ran (omega arith) (λ x b q k. search (rules, tests))
-- with `tests` of borrow.Author.Tests; found_from_any, none_from_all and none_from_fold likewise.
use Rattle.std.specs.Prelude.{ℕ, zero, suc, ◌+◌, ◌-◌, ◌≤◌, ◌<◌, Bool, true, false, cond, ◌&&◌, not, ◌≡◌, refl, List, length, Option, Some, None, get_or}
use Rattle.std.proofs.Common.{arith, sym, subst, ap, ◌∙◌, Bor}
use Rattle.std.proofs.Math.Decide.{dec_lt}
use Rattle.std.proofs.iter.Yields.{nat_range_steps}
use Rattle.std.proofs.lemmas.Iterator.{first_from_Range, cases_from_any, cases_from_all, YieldsList-from_range}
use Rattle.std.proofs.lemmas.Iterator.Consumers.{fold_from_yields_List}
use Rattle.std.proofs.lemmas.List.FromFn.{length-range_with_len, get_or-range_with_len}
use Rattle.std.specs.declared.ops.Range.{Range}
use Rattle.std.specs.Bool.{MatchBool}
use Rattle.std.specs.Fn.{Called, CalledAt}
use Rattle.std.specs.Iterator.{FindsItem, ChecksAny, ChecksAll, FoldsItems}
use Rattle.std.specs.List.{fold, range_with_len, AllWithin, HoldsAt}
use Rattle.std.specs.Option.{MatchOption}
use denote.Param.Members.{Mut}
use Rattle.search.specs.Search.{lowest, is_found}
use Rattle.search.proofs.Laws.Meaning.{LowestIs, lowest_is}

-- only one answer fits
module _ (p : ℕ → Bool) (s n : ℕ) where
  clash : (i : ℕ) → p i ≡ true → p i ≡ false → ⊥
  clash i t f = let z : ◌≡◌ {A = Bool} true false = sym t ∙ f in cc

  lowest_only : (r t : Option ℕ) → LowestIs p s n r → LowestIs p s n t → r ≡ t
  lowest_only None None x y = refl
  lowest_only None (Some j) x y = absurd (clash j y.2 (x j y.0 y.1))
  lowest_only (Some i) None x y = absurd (clash i x.2 (y i x.0 x.1))
  lowest_only (Some i) (Some j) x y = elim (dec_lt i j) [
    | yes h ↦ absurd (clash i x.2 (y.3 i x.0 h))
    | no h ↦ elim (dec_lt j i) [ yes k ↦ absurd (clash j y.2 (x.3 j y.0 k)) | no k ↦ let e : i ≡ j = omega arith in ap Some e ]
  ]

  met : (r : Option ℕ) → LowestIs p s n r → (i : ℕ) → s ≤ i → i < s + n → p i ≡ true → is_found r ≡ true
  met (Some j) x i h k t = refl
  met None x i h k t = absurd (clash i t (x i h k))

  unmet : (r : Option ℕ) → LowestIs p s n r → ((i : ℕ) → s ≤ i → i < s + n → p i ≡ false) → is_found r ≡ false
  unmet (Some j) x h = absurd (clash j x.2 (h j x.0 x.1))
  unmet None x h = refl

-- the numbers that the range gives
module _ (p : ℕ → Bool) (start n : ℕ) where
  abbrev all : List ℕ
  all = range_with_len start n

  place : (i : ℕ) → i < n → get_or all i 0 ≡ start + i
  place i h = get_or-range_with_len start n i 0 h

  long : length all ≡ n
  long = length-range_with_len start n

  module _ (b : Bool) where
    at_each : AllWithin (λ x. p x ≡ b) all 0 (length all) → (i : ℕ) → start ≤ i → i < start + n → p i ≡ b
    at_each h i j k =
        let P : ℕ → Type 0 = λ x. p x ≡ b in
        let l : i - start < length all = omega (arith, long) in
        let e : get_or all (i - start) 0 ≡ i = omega (arith, place (i - start) (omega arith)) in
        subst P e (h (i - start) 0 (omega arith) l)

    at_one : (k : ℕ) → k < length all → HoldsAt (λ x. p x ≡ b) all k → p (start + k) ≡ b
    at_one k l h = let P : ℕ → Type 0 = λ x. p x ≡ b in subst P (place k (omega (arith, long))) (h 0)

  -- some number passes, or none
  found_lem : (k : ℕ) × (k < length all) × HoldsAt (λ x. p x ≡ true) all k → true ≡ is_found (lowest p start n)
  found_lem h = sym (met p start n _ (lowest_is p start n) (start + h.0) (omega arith) (omega (arith, long, h.1)) (at_one true h.0 h.1 h.2))

  missed : AllWithin (λ x. p x ≡ false) all 0 (length all) → false ≡ is_found (lowest p start n)
  missed h = sym (unmet p start n _ (lowest_is p start n) (at_each false h))

-- the first number of a range that passes, in the library's words
abbrev First : (ℕ → Bool) → Range ℕ → Option ℕ → Type 0
First p a o = MatchOption o ((k : ℕ) → a.start ≤ k → k < a.end → p k ≡ false)
    (λ i. (a.start ≤ i) × (i < a.end) × (p i ≡ true) × ((k : ℕ) → a.start ≤ k → k < i → p k ≡ false))

-- what a chain over the range a answers, which leaves u of it. Its closure f computes p and stays as it was.
module _ {F : Type 0} {p : ℕ → Bool} {n : ℕ} {a : Range ℕ} {f : F} (u : Range ℕ) where
  pub lowest_from_find : {g : Mut F (Bor ℕ × Unit {0}) Bool} {r : Option ℕ} → FindsItem nat_range_steps g a f r u → a.end - a.start ≡ n
      → ((x : ℕ) (b : Bool) (q : F) → CalledAt g f x b q → (q ≡ f) × (b ≡ p x)) → r ≡ lowest p a.start n
  lowest_from_find {r} ran e calls = lowest_only p a.start n r (lowest p a.start n) (by r found) (lowest_is p a.start n)
    where
      found : First p a r
      found = first_from_Range a u f r (λ x. p x ≡ true) (λ x. p x ≡ false) ran
          (λ x q k. sym (calls x true q k).1) (λ x q k. ((calls x false q k).0, sym (calls x false q k).1))

      by : (o : Option ℕ) → First p a o → LowestIs p a.start n o
      by None h = λ k i j. h k i (omega arith)
      by (Some i) h = (h.0, omega arith, h.2, h.3)

  pub found_from_any : {g : Mut F (ℕ × Unit {0}) Bool} {r : Bool} → ChecksAny nat_range_steps g a f r u → a.end - a.start ≡ n
      → ((x : ℕ) (b : Bool) (q : F) → Called g f (x, tt) b q → (q ≡ f) × (b ≡ p x)) → r ≡ is_found (lowest p a.start n)
  found_from_any {r} ran e calls =
      by r (cases_from_any u f r (λ x. p x ≡ true) (λ x. p x ≡ false) ran (YieldsList-from_range a.start a.end n refl e)
      (λ x q k. sym (calls x true q k).1) (λ x q k. ((calls x false q k).0, sym (calls x false q k).1)))
    where
      by : (r : Bool) → MatchBool r ((k : ℕ) × (k < length (all p a.start n)) × HoldsAt (λ x. p x ≡ true) (all p a.start n) k)
          (AllWithin (λ x. p x ≡ false) (all p a.start n) 0 (length (all p a.start n))) → r ≡ is_found (lowest p a.start n)
      by true h = found_lem p a.start n h
      by false h = missed p a.start n h

  -- here the closure says that p fails
  pub none_from_all : {g : Mut F (ℕ × Unit {0}) Bool} {r : Bool} → ChecksAll nat_range_steps g a f r u → a.end - a.start ≡ n
      → ((x : ℕ) (b : Bool) (q : F) → Called g f (x, tt) b q → (q ≡ f) × (not b ≡ p x)) → r ≡ not (is_found (lowest p a.start n))
  none_from_all {r} ran e calls =
      by r (cases_from_all u f r (λ x. p x ≡ false) (λ x. p x ≡ true) ran (YieldsList-from_range a.start a.end n refl e)
      (λ x q k. ((calls x true q k).0, sym (calls x true q k).1)) (λ x q k. sym (calls x false q k).1))
    where
      by : (r : Bool) → MatchBool r (AllWithin (λ x. p x ≡ false) (all p a.start n) 0 (length (all p a.start n)))
          ((k : ℕ) × (k < length (all p a.start n)) × HoldsAt (λ x. p x ≡ true) (all p a.start n) k) → r ≡ not (is_found (lowest p a.start n))
      by true h = ap not (missed p a.start n h)
      by false h = ap not (found_lem p a.start n h)

-- ---- a fold over a range that says whether no number passes the test p. Its closure f computes that and stays as it was.

fold_none : (p : ℕ → Bool) (s n : ℕ) (b : Bool) → fold (λ none c. none && not (p c)) b (range_with_len s n) ≡ (b && not (is_found (lowest p s n)))
unfolding lowest
fold_none p s zero b = by b
  where
    by : (b : Bool) → b ≡ (b && true)
    by true = refl
    by false = refl
fold_none p s (suc n) b = fold_none p (s + 1) n (b && not (p s)) ∙ by b (p s) (lowest p (s + 1) n)
  where
    by : (b t : Bool) (o : Option ℕ) → ((b && not t) && not (is_found o)) ≡ (b && not (is_found (cond t (Some s) o)))
    by true true o = refl
    by true false o = refl
    by false true o = refl
    by false false o = refl

module _ {F : Type 0} (p : ℕ → Bool) {n : ℕ} {a : Range ℕ} {f : F} where
  pub none_from_fold : {g : Mut F (Bool × (ℕ × Unit {0})) Bool} {r : Bool} → FoldsItems nat_range_steps g a f true r → a.end - a.start ≡ n
      → ((b : Bool) (x : ℕ) (t : Bool) (q : F) → Called g f (b, (x, tt)) t q → (q ≡ f) × (t ≡ (b && not (p x)))) → r ≡ not (is_found (lowest p a.start n))
  none_from_fold {g} {r} ran e calls =
      fold_from_yields_List g (λ b x. b && not (p x)) true r ran (YieldsList-from_range a.start a.end n refl e) calls ∙ fold_none p a.start n true
