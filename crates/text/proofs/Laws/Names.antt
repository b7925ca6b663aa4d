-- A name's parts, byte by byte.
use Rattle.std.specs.Prelude.{ℕ, suc, ◌+◌, ◌≤◌, ◌<◌, Bool, true, false, cond, ◌&&◌, List, [], ◌∷◌, ◌++◌, map, ◌≢◌, ◌≡◌, refl, eqb, length, get_or, take}
use Rattle.std.specs.List.{list_all}
use native.Mathlib.Omega.{arith}
use Rattle.std.proofs.Common.{add-one, sym, ◌∙◌, ap, take_all, ne_eqb}
use Rattle.std.proofs.Math.Seq.{take-suc}
use Rattle.std.proofs.lemmas.List.{map-append, nil_from_length}
use Rattle.std.proofs.lemmas.Bool.Decides.{nat_tests}
use Rattle.names.specs.Spelling.{dot, space, every}
use Rattle.names.specs.Alphabet.{plain}
use Rattle.text.specs.declared.page.Page.{Page}
use Rattle.text.specs.Names.{only_spaces, trimmed, shown, part_text, ext_text}
use Rattle.text.specs.Aids.Pages.{Adds}
use Rattle.text.proofs.Laws.Pages.{adds_nothing, adds_then}

-- ---- whether only spaces are left

pub spaces_all : (s : List ℕ) → list_all (λ (c : ℕ). eqb c space) s ≡ only_spaces s
unfolding only_spaces every
spaces_all [] = refl
spaces_all (c ∷ cs) = ap (λ b. eqb c space && b) (spaces_all cs)

-- ---- a byte

pub shown_plain : (c : ℕ) (b : Bool) → b ≡ plain c → b ≡ true → c ≡ shown c
unfolding shown
shown_plain c b e t = rw (sym e ∙ t)

pub shown_other : (c : ℕ) (b : Bool) → b ≡ plain c → b ≡ false → 0x3F ≡ shown c
unfolding shown
shown_other c b e t = rw (sym e ∙ t)

-- ---- a part without the spaces at its end

spaces_end : (s : List ℕ) (c : ℕ) → only_spaces (s ++ (c ∷ [])) ≡ (only_spaces s && eqb c space)
unfolding only_spaces every
spaces_end [] c = grind (arith, nat_tests)
spaces_end (x ∷ xs) c = rw (spaces_end xs c) (grind (arith, nat_tests))

trimmed_space : (s : List ℕ) → trimmed (s ++ (space ∷ [])) ≡ trimmed s
unfolding trimmed only_spaces every
trimmed_space [] = refl
trimmed_space (x ∷ xs) = rw (spaces_end (x ∷ xs) space, trimmed_space xs) (grind (arith, nat_tests))

trimmed_end : (s : List ℕ) (c : ℕ) → c ≢ space → trimmed (s ++ (c ∷ [])) ≡ s ++ (c ∷ [])
unfolding trimmed only_spaces every
trimmed_end [] c h = rw (ne_eqb c space h)
trimmed_end (x ∷ xs) c h = rw (spaces_end (x ∷ xs) c, ne_eqb c space h, trimmed_end xs c h) (grind (arith, nat_tests))

module _ (s : List ℕ) (t : List ℕ) (is : trimmed s ≡ t) where
  pub trimmed_turn : (rest : List ℕ) (c : ℕ) → s ≡ rest ++ (c ∷ []) → c ≡ space → trimmed rest ≡ t
  trimmed_turn rest c e h = sym (trimmed_space rest) ∙ rw (e, h) at is

  pub trimmed_done : (rest : List ℕ) (c : ℕ) → s ≡ rest ++ (c ∷ []) → c ≢ space → s ≡ t
  trimmed_done rest c e h = e ∙ sym (trimmed_end rest c h) ∙ rw e at is

  pub trimmed_none : length s ≡ 0 → s ≡ t
  unfolding trimmed
  trimmed_none e = rw (nil_from_length s e) (rw (nil_from_length s e) at is)

length_trimmed : (s : List ℕ) → length (trimmed s) ≤ length s
unfolding trimmed
length_trimmed [] = omega arith
length_trimmed (x ∷ xs) = elim (only_spaces (x ∷ xs)) as (λ b. length (cond b [] (x ∷ trimmed xs)) ≤ suc (length xs)) [ true ↦ omega arith | false ↦ omega (arith, length_trimmed xs) ]

-- ---- a part on a page

-- one byte more
pub adds_next : (s : List ℕ) (i c : ℕ) (p q r : Page) → i < length s → Adds (map shown (take i s)) p q → c ≡ shown (get_or s i 0) → Adds (c ∷ []) q r → Adds (map shown (take (i + 1) s)) p r
adds_next s i c p q r h f e g =
    let d : take (i + 1) s ≡ take i s ++ (get_or s i 0 ∷ []) = rw (add-one i) (take-suc s i 0 h) in
    rw (d, map-append shown (take i s) (get_or s i 0 ∷ [])) (adds_then (map shown (take i s)) (shown (get_or s i 0) ∷ []) p q r f (rw e at g))

pub adds_part : (s t : List ℕ) (i : ℕ) (p q : Page) → t ≡ trimmed s → length t ≤ i → Adds (map shown (take i t)) p q → Adds (part_text s) p q
unfolding part_text
adds_part s t i p q e h f = rw (take_all i t h, e) at f

pub length_part_kept : (s t : List ℕ) → t ≡ trimmed s → length t ≤ length s
length_part_kept s t e = omega (arith, length_trimmed s, ap length e)

-- ---- an extension

module _ (s : List ℕ) (b : Bool) (is : b ≡ only_spaces s) where
  pub adds_no_extension : (p : Page) → b ≡ true → Adds (ext_text s) p p
  unfolding ext_text
  adds_no_extension p e = rw (sym is ∙ e) (adds_nothing p)

  pub adds_extension : (p q r : Page) → b ≡ false → Adds (dot ∷ []) p q → Adds (part_text s) q r → Adds (ext_text s) p r
  unfolding ext_text
  adds_extension p q r e f g = rw (sym is ∙ e) (adds_then (dot ∷ []) (part_text s) p q r f g)
