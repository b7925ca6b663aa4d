-- A search through the first 16 places of a row, as a chain goes: its first hit is the lowest place.
use Rattle.std.specs.Prelude.{ℕ, ◌<◌, Bool, true, false, List, ◌≡◌, length, get_or, take, Option, Some, None, MatchOption}
use Rattle.std.proofs.Common.{arith, sym, ap, ◌∙◌, ltb-true}
use Rattle.std.proofs.lemmas.List.{get_or-take, length-take}
use Rattle.std.specs.Bool.{MatchBool}
use Rattle.std.specs.List.{AllWithin, HoldsAt}
use Rattle.search.specs.Search.{lowest, is_found, Answers}
use Rattle.search.proofs.Laws.Answers.{below_answers, only_answer}
use Rattle.records.specs.declared.OpenRecord.{OpenRecord}
use Rattle.records.specs.Row.{unused, row_count}

module _ (p : OpenRecord → Bool) (row : List OpenRecord) where
  abbrev test : ℕ → Bool
  test i = p (get_or row i unused)

  abbrev looked_at : List OpenRecord
  looked_at = take 16 row

  abbrev Passes : ℕ → Type 0
  Passes i = (i < row_count row) × (test i ≡ true)

  abbrev is_lowest : Answers Passes (lowest test 0 (row_count row))
  is_lowest = below_answers test (λ i. test i ≡ true) (row_count row) (λ i h. (λ x. x, λ x. x))

  at_place : (b : Bool) (i : ℕ) → i < length looked_at → p (get_or looked_at i unused) ≡ b → test i ≡ b
  at_place b i h e = let l = length-take 16 row in ap p (sym (get_or-take 16 row i unused (omega arith))) ∙ e

  clash : (i : ℕ) → test i ≡ false → test i ≡ true → ⊥
  clash i f t = let z : ◌≡◌ {A = Bool} true false = sym t ∙ f in cc

  -- the first place that passes
  pub first_is : (r : Option ℕ) → MatchOption r (AllWithin (λ x. p x ≡ false) looked_at 0 (length looked_at))
      (λ i. (i < length looked_at) × HoldsAt (λ x. p x ≡ true) looked_at i × AllWithin (λ x. p x ≡ false) looked_at 0 i) → r ≡ lowest test 0 (row_count row)
  first_is r h = only_answer Passes r _ (by r h) is_lowest
    where
      by : (o : Option ℕ) → MatchOption o (AllWithin (λ x. p x ≡ false) looked_at 0 (length looked_at))
          (λ i. (i < length looked_at) × HoldsAt (λ x. p x ≡ true) looked_at i × AllWithin (λ x. p x ≡ false) looked_at 0 i) → Answers Passes o
      by None h = λ i x. let l = length-take 16 row in let k : i < row_count row = x.0 in clash i (at_place false i (omega arith) (h i unused (omega arith) (omega arith))) x.1
      by (Some i) h = (
        (let l = length-take 16 row in omega (arith, h.0), at_place true i h.0 (h.1 unused)),
        λ j b x. let k = ltb-true j i b in let n : i < length looked_at = h.0 in clash j (at_place false j (omega arith) (h.2 j unused (omega arith) k)) x.1,
      )

  -- whether one passes
  pub any_is : (r : Bool) → MatchBool r ((i : ℕ) × (i < length looked_at) × HoldsAt (λ x. p x ≡ true) looked_at i)
      (AllWithin (λ x. p x ≡ false) looked_at 0 (length looked_at)) → r ≡ is_found (lowest test 0 (row_count row))
  any_is r h = by r h (lowest test 0 (row_count row)) is_lowest
    where
      by : (b : Bool) → MatchBool b ((i : ℕ) × (i < length looked_at) × HoldsAt (λ x. p x ≡ true) looked_at i)
          (AllWithin (λ x. p x ≡ false) looked_at 0 (length looked_at)) → (o : Option ℕ) → Answers Passes o → b ≡ is_found o
      by true h (Some i) x = cc
      by true h None x = let l = length-take 16 row in absurd (x h.0 (omega (arith, h.1), at_place true h.0 h.1 (h.2 unused)))
      by false h (Some i) x = let l = length-take 16 row in let k : i < row_count row = x.0.0 in absurd (clash i (at_place false i (omega arith) (h i unused (omega arith) (omega arith))) x.0.1)
      by false h None x = cc
