-- The function answers what a caller may write, and refuses the rest.
use Rattle.std.specs.Prelude.{ℕ, Bool, true, false, Option, Some, None, ◌↔◌, ◌≡◌, eqb}
use Rattle.std.proofs.Common.{◌∙◌, ne_eqb}
use Rattle.std.proofs.Math.Bool.{not}
use mathlib.Core.List.{List, [], ◌∷◌, ◌++◌, append-nil}
use Rattle.std.proofs.Math.Logic.{inl, inr}
use Rattle.std.proofs.Math.Path.{refl, sym, ap}
use Rattle.names.specs.Alphabet.{plain, allowed}
use Rattle.names.specs.Spelling.{dot, every, Spells, eleven, Means}
use Rattle.names.specs.Reading.{before_first, after_first, fitting, spelled_if, name_given}
use Rattle.names.specs.Aids.Reading.{undotted, answer}
use Rattle.names.proofs.Laws.Tests.{fitting_parts, parts_fitting}
use Rattle.names.proofs.Laws.Alphabet.{told, every_also}
use Rattle.names.proofs.Laws.Parts.{cut, before_skip, after_skip}

-- ---- parts by any rule that has no dot in a good one

module _ (good : List ℕ → Bool) (no_dots : (t : List ℕ) → good t ≡ true → undotted t ≡ true) where
  -- what is spelled is found again: the parts of a spelling are the only ones
  spells_parts : (s base ext : List ℕ) → Spells good s base ext → (before_first dot s ≡ base) × (after_first dot s ≡ ext)
  unfolding before_first after_first
  spells_parts s base ext w = elim w.written [
    | inl h ↦
        let e : s ≡ base ++ [] = h.0 ∙ sym (append-nil base) in
        (ap (before_first dot) e ∙ skip [] ∙ append-nil base, ap (after_first dot) e ∙ past [] ∙ sym h.1)
    | inr e ↦ (ap (before_first dot) e ∙ skip (dot ∷ ext) ∙ append-nil base, ap (after_first dot) e ∙ past (dot ∷ ext))
  ]
    where
      skip : (r : List ℕ) → before_first dot (base ++ r) ≡ base ++ before_first dot r
      skip r = before_skip (λ (c : ℕ). not (eqb c dot)) dot refl base r (no_dots base w.parts.base_good)

      past : (r : List ℕ) → after_first dot (base ++ r) ≡ after_first dot r
      past r = after_skip (λ (c : ℕ). not (eqb c dot)) dot refl base r (no_dots base w.parts.base_good)

-- ---- what the answer is, if bytes makes the eleven of two good parts

if_some : (b : Bool) (m n : List ℕ) → spelled_if b m ≡ Some n → (b ≡ true) × (m ≡ n)
if_some true m n e = (refl, cc)
if_some false m n e = absurd (cc)

if_none : (b : Bool) (n : List ℕ) → spelled_if b n ≡ None → b ≡ false
if_none true n e = absurd (cc)
if_none false n e = refl

module _ (good : List ℕ → Bool) (bytes : List ℕ → List ℕ → List ℕ) (s : List ℕ) where
  module _ (n : List ℕ) (e : answer good bytes s ≡ Some n) where
    pub answer_name : n ≡ bytes (before_first dot s) (after_first dot s)
    answer_name = sym (if_some (fitting good (before_first dot s) (after_first dot s)) _ n e).1

    pub answer_spells : Spells good s (before_first dot s) (after_first dot s)
    answer_spells =
        let f = if_some (fitting good (before_first dot s) (after_first dot s)) (bytes (before_first dot s) (after_first dot s)) n e in
        record { parts = fitting_parts good (before_first dot s) (after_first dot s) f.0; written = cut dot s }

  module _ (no_dots : (t : List ℕ) → good t ≡ true → undotted t ≡ true) where
    pub spells_answer : (base ext : List ℕ) → Spells good s base ext → answer good bytes s ≡ Some (bytes base ext)
    spells_answer base ext w = let p = spells_parts good no_dots s base ext w in rw (p.0, p.1, parts_fitting good base ext w.parts)

    pub answer_refused : (answer good bytes s ≡ None) ↔ ((base ext : List ℕ) → Spells good s base ext → ⊥)
    answer_refused = (there, back (answer good bytes s) refl)
      where
        there : answer good bytes s ≡ None → (base ext : List ℕ) → Spells good s base ext → ⊥
        there e base ext w = let f = spells_answer base ext w in cc

        back : (o : Option (List ℕ)) → answer good bytes s ≡ o → ((base ext : List ℕ) → Spells good s base ext → ⊥) → o ≡ None
        back (Some n) e h = absurd (h (before_first dot s) (after_first dot s) (answer_spells n e))
        back None e h = refl

-- ---- names

-- a dot is no character of the alphabet
pub no_dot : allowed dot ≡ false
unfolding allowed plain
no_dot = refl

allowed_undotted : (t : List ℕ) → every allowed t ≡ true → undotted t ≡ true
allowed_undotted = every_also allowed (λ (c : ℕ). not (eqb c dot)) (λ c a. rw (ne_eqb c dot (told allowed c dot a no_dot)))

module _ (s : List ℕ) where
  pub fits_name : (n : List ℕ) → name_given s ≡ Some n → n ≡ eleven (before_first dot s) (after_first dot s)
  unfolding name_given
  fits_name = answer_name (every allowed) eleven s

  pub fits_spells : (n : List ℕ) → name_given s ≡ Some n → Spells (every allowed) s (before_first dot s) (after_first dot s)
  unfolding name_given
  fits_spells = answer_spells (every allowed) eleven s

  pub spells_fits : (base ext : List ℕ) → Spells (every allowed) s base ext → name_given s ≡ Some (eleven base ext)
  unfolding name_given
  spells_fits = spells_answer (every allowed) eleven s allowed_undotted

  -- it is refused exactly where nothing is spelled
  pub refused : (name_given s ≡ None) ↔ ((base ext : List ℕ) → Spells (every allowed) s base ext → ⊥)
  unfolding name_given
  refused = answer_refused (every allowed) eleven s allowed_undotted

-- eleven bytes are answered exactly where s means them
pub accepted : (s n : List ℕ) → (name_given s ≡ Some n) ↔ Means s n
accepted s n = (
  λ e. record { base = before_first dot s; ext = after_first dot s; spells = fits_spells s n e; bytes = fits_name s n e },
  λ m. spells_fits s m.base m.ext m.spells ∙ ap Some (sym m.bytes),
)
