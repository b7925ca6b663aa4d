-- The function answers what a caller may write as a pattern, and refuses the rest; a name is a pattern.
use Rattle.std.specs.Prelude.{ℕ, ◌-◌, true, false, List, [], ◌∷◌, Some, None, ◌↔◌, ◌≡◌, refl, length, get_or}
use Rattle.std.proofs.Common.{arith, sym, ◌∙◌, ap, ne_eqb}
use Rattle.names.specs.Alphabet.{plain, allowed}
use Rattle.names.specs.Spelling.{dot, every, Parts, Spells, eleven, without_last}
use Rattle.names.specs.Reading.{before_first, after_first, name_given}
use Rattle.names.proofs.Laws.Tests.{parts_fitting}
use Rattle.names.proofs.Laws.Alphabet.{told, every_also, every_at}
use Rattle.names.proofs.Laws.Parts.{without_none}
use Rattle.names.proofs.Laws.Meaning.{answer_name, answer_spells, spells_answer, answer_refused, fits_name, fits_spells}
use Rattle.patterns.specs.Patterns.{star, pattern_sign, pattern_part, starred, eleven_wild, PatternMeans, pattern_given}
use Rattle.patterns.proofs.Laws.Parts.{part_undotted}

-- eleven bytes are answered exactly where s means them
pub pattern_accepted : (s n : List ℕ) → (pattern_given s ≡ Some n) ↔ PatternMeans s n
unfolding pattern_given
pattern_accepted s n = (
  λ e.
      record {
        base = before_first dot s;
        ext = after_first dot s;
        spells = answer_spells pattern_part eleven_wild s n e;
        bytes = answer_name pattern_part eleven_wild s n e;
      },
  λ m. spells_answer pattern_part eleven_wild s part_undotted m.base m.ext m.spells ∙ ap Some (sym m.bytes),
)

-- it is refused exactly where nothing is spelled
pub pattern_refused : (s : List ℕ) → (pattern_given s ≡ None) ↔ ((base ext : List ℕ) → Spells pattern_part s base ext → ⊥)
unfolding pattern_given
pattern_refused s = answer_refused pattern_part eleven_wild s part_undotted

-- a pattern means one thing only
pub pattern_only : (s m n : List ℕ) → PatternMeans s m → PatternMeans s n → m ≡ n
pattern_only s m n p q = let e = (pattern_accepted s m).1 p in let f = (pattern_accepted s n).1 q in cc

-- ---- a name is a pattern

no_star : allowed star ≡ false
unfolding allowed plain
no_star = refl

no_last_star : (t : List ℕ) → every allowed t ≡ true → starred t ≡ false
no_last_star [] e = refl
no_last_star (c ∷ cs) e =
    let last = length (c ∷ cs) - 1 in
    ne_eqb (get_or (c ∷ cs) last 0) star (told allowed (get_or (c ∷ cs) last 0) star (every_at allowed (c ∷ cs) last e (omega arith)) no_star)

whole : (t : List ℕ) → every allowed t ≡ true → without_last star t ≡ t
whole = without_none allowed star no_star

allowed_part : (t : List ℕ) → every allowed t ≡ true → pattern_part t ≡ true
unfolding pattern_part pattern_sign
allowed_part t e = rw (whole t e) (every_also allowed pattern_sign (λ c a. rw a) t e)

module _ (base ext : List ℕ) (p : Parts (every allowed) base ext) where
  name_parts : Parts pattern_part base ext
  name_parts =
      record { some = p.some; eight = p.eight; three = p.three; base_good = allowed_part base p.base_good; ext_good = allowed_part ext p.ext_good }

  name_bytes : eleven_wild base ext ≡ eleven base ext
  unfolding eleven_wild eleven
  name_bytes = rw (no_last_star base p.base_good, whole base p.base_good, no_last_star ext p.ext_good, whole ext p.ext_good)

-- what a caller may write as a name is a pattern, with the same eleven bytes
pub name_is_pattern : (s n : List ℕ) → name_given s ≡ Some n → pattern_given s ≡ Some n
unfolding pattern_given
name_is_pattern s n e =
    let base = before_first dot s in
    let ext = after_first dot s in
    let p : Parts (every allowed) base ext = (fits_spells s n e).parts in
    rw (parts_fitting pattern_part base ext (name_parts base ext p), name_bytes base ext p, ← fits_name s n e)
