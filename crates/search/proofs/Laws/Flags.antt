-- A loop from i up to end that looks at all and says whether none passes the test; now is its answer after the turn.
use Rattle.std.specs.Prelude.{ℕ, ◌+◌, ◌-◌, ◌≤◌, ◌<◌, Bool, true, false, not, ◌≡◌, refl, Option, Some, None}
use Rattle.std.proofs.Common.{arith, sym, ap, ◌∙◌}
use Rattle.search.specs.Search.{lowest, is_found}
use Rattle.search.specs.Aids.Flags.{NoneTo}
use Rattle.search.proofs.Laws.Turns.{lowest_hit, lowest_miss, lowest_done}

module _ (p : ℕ → Bool) (i end : ℕ) (whole : Option ℕ) where
  pub none_from : lowest p i (end - i) ≡ whole → NoneTo p i end whole true
  none_from e = record { yes = λ x. e; no = λ x. absurd (let z : ◌≡◌ {A = ℕ} 0 1 = cc in omega arith) }

  module _ (none : Bool) (inv : NoneTo p i end whole none) where
    module _ (h : i < end) (now : Bool) where
      pub none_hit : p i ≡ true → now ≡ false → NoneTo p (i + 1) end whole now
      none_hit t e = record { yes = λ x. absurd (let z : ◌≡◌ {A = ℕ} 0 1 = cc in omega arith); no = λ x. met none inv }
        where
          met : (b : Bool) → NoneTo p i end whole b → is_found whole ≡ true
          met true v = sym (ap is_found (lowest_hit p i end whole (v.yes refl) h true (sym t) refl))
          met false v = v.no refl

      pub none_miss : p i ≡ false → now ≡ none → NoneTo p (i + 1) end whole now
      none_miss t e = record { yes = λ x. lowest_miss p i end whole (inv.yes (sym e ∙ x)) h false (sym t) refl; no = λ x. inv.no (sym e ∙ x) }

    pub none_told : end ≤ i → none ≡ not (is_found whole)
    none_told h = told none inv
      where
        told : (b : Bool) → NoneTo p i end whole b → b ≡ not (is_found whole)
        told true v = ap (λ f. not (is_found f)) (lowest_done p i end whole (v.yes refl) h)
        told false v = ap not (sym (v.no refl))

-- what the answer says
pub none_found : (f : Option ℕ) (none : Bool) → none ≡ not (is_found f) → none ≡ true → None ≡ f
none_found None none e t = refl
none_found (Some i) none e t = absurd (let z : ◌≡◌ {A = ℕ} 0 1 = cc in omega arith)
