-- The search over the marks: finding 7 at cluster c.
use Rattle.std.specs.Prelude.{ℕ, zero, suc, ◌+◌, ◌-◌, ◌≤◌, ◌<◌, Bool, ◌&&◌, ◌||◌, not, List, ◌≢◌, ◌≡◌, ◌⊎◌, get_or, Option, Some}
use Rattle.std.proofs.Math.Bool.{true, false, cond}
use Rattle.std.proofs.Math.Path.{refl}
use Rattle.std.proofs.Common.{sym, ◌∙◌, inl, inr}
use borrow.Author.Tests.{eq-eqb, ne_eqb}
use Rattle.chains.specs.Aids.Check.{lost}
use Rattle.chains.specs.Values.{linkb, endb}
use Rattle.search.specs.Search.{lowest, is_found}
use Rattle.values.specs.Values.{meaning_of}
use Rattle.values.proofs.Laws.Meanings.{is_end, is_next, end_said, link_said}
use Rattle.values.specs.declared.Meaning.{Meaning}
use Rattle.values.specs.declared.Meaning.TheVariants.{Free, Next, Bad, Reserved, End, NoneOfThese}
use Rattle.table.specs.Entries.{table_of}

-- ---- finding 7, at one cluster: v is its value, g what that means

module _ (last : ℕ) (l m : List ℕ) (c : ℕ) where
  pub met_before : get_or m c 0 ≢ 0 → false ≡ lost last (table_of last l) m c
  unfolding lost
  met_before d = rw (ne_eqb (get_or m c 0) 0 d) (sym (no (linkb last (table_of last l c) || endb (table_of last l c))))
    where
      no : (b : Bool) → (b && false) ≡ false
      no true = refl
      no false = refl

  module _ (v : ℕ) (g : Meaning) (z : get_or m c 0 ≡ 0) (low : last ≤ 4079) (r : v ≡ table_of last l c) (small : v < 4096) (e : g ≡ meaning_of last v) where
    lost_by : (w : Meaning) → g ≡ w → (b : Bool) → b ≡ ((is_next w || is_end w) && true) → b ≡ lost last (table_of last l) m c
    unfolding lost
    lost_by w x b y = y ∙ rw (sym r, eq-eqb (get_or m c 0) 0 z, link_said last v low small g e, end_said last v low small g e, x)

    pub lost_on : ((n : ℕ) × (g ≡ Next n)) ⊎ (g ≡ End) → true ≡ lost last (table_of last l) m c
    lost_on (inl x) = lost_by (Next x.0) x.1 true refl
    lost_on (inr x) = lost_by End x true refl

    pub lost_off : ((n : ℕ) → g ≢ Next n) → g ≢ End → false ≡ lost last (table_of last l) m c
    lost_off next end = by g refl
      where
        by : (w : Meaning) → g ≡ w → false ≡ lost last (table_of last l) m c
        by Free x = lost_by Free x false refl
        by (Next n) x = absurd (next n x)
        by Bad x = lost_by Bad x false refl
        by Reserved x = lost_by Reserved x false refl
        by End x = absurd (end x)
        by NoneOfThese x = lost_by NoneOfThese x false refl
