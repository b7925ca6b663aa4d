-- What a slot stands for: the function and the paper's words agree.
use Rattle.std.specs.Prelude.{ℕ, Bool, true, false, cond, List, ◌≢◌, ◌↔◌, ◌≡◌, refl, get_or}
use Rattle.std.proofs.Common.{arith, inl, inr, sym, subst}
use Rattle.std.proofs.Math.Decide.{ℕ_discrete}
use borrow.Author.Tests.{eq-eqb, ne_eqb}
use Rattle.fields.specs.Fields.{attr_of}
use Rattle.directory.specs.Slots.{has_bit, NeverUsedAt, ErasedAt, LiveAt, LabelAt, PlainAt, VacantAt, standing_by, standing_of, is_vacant, is_plain}
use Rattle.directory.specs.declared.Standing.{Standing}
use Rattle.directory.specs.declared.Standing.TheVariants.{NeverUsed, Erased, Label, Plain}

-- ---- the rule, case by case

never_used_lem : (first attr : ℕ) → first ≡ 0 → NeverUsed ≡ standing_by first attr
unfolding standing_by
never_used_lem first attr e = rw (eq-eqb first 0 e)

erased : (first attr : ℕ) → first ≡ 0xE5 → Erased ≡ standing_by first attr
unfolding standing_by
erased first attr e = rw e

module _ (first attr : ℕ) (used : first ≢ 0) (kept : first ≢ 0xE5) (b : Bool) (bit : b ≡ has_bit attr 0x08) where
  label : b ≡ true → Label ≡ standing_by first attr
  unfolding standing_by
  label e = rw (ne_eqb first 0 used, ne_eqb first 0xE5 kept, ← bit, e)

  plain : b ≡ false → Plain ≡ standing_by first attr
  unfolding standing_by
  plain e = rw (ne_eqb first 0 used, ne_eqb first 0xE5 kept, ← bit, e)

-- ---- the function says what the words say

abbrev MeansAt : List ℕ → ℕ → Standing → Type 0
MeansAt l a NeverUsed = NeverUsedAt l a
MeansAt l a Erased = ErasedAt l a
MeansAt l a Label = LabelAt l a
MeansAt l a Plain = PlainAt l a

by_bit : (l : List ℕ) (a : ℕ) → LiveAt l a → (b : Bool) → has_bit (attr_of l a) 0x08 ≡ b → MeansAt l a (cond b Label Plain)
by_bit l a v true e = (v, e)
by_bit l a v false e = (v, e)

means : (l : List ℕ) (a : ℕ) → MeansAt l a (standing_of l a)
unfolding standing_by
means l a = elim (ℕ_discrete (get_or l a 0) 0) [
  | yes p ↦ rw (eq-eqb (get_or l a 0) 0 p) p
  | no p ↦ elim (ℕ_discrete (get_or l a 0) 0xE5) [
    | yes q ↦ rw (ne_eqb (get_or l a 0) 0 p, eq-eqb (get_or l a 0) 0xE5 q) q
    | no q ↦ rw (ne_eqb (get_or l a 0) 0 p, ne_eqb (get_or l a 0) 0xE5 q) (by_bit l a (p, q) (has_bit (attr_of l a) 0x08) refl)
  ]
]

open_means : (l : List ℕ) (a : ℕ) (s : Standing) → MeansAt l a s → is_vacant s ≡ true → VacantAt l a
open_means l a NeverUsed m e = inr m
open_means l a Erased m e = inl m
open_means l a Label m e = absurd (let z : ◌≡◌ {A = ℕ} 0 1 = cc in omega arith)
open_means l a Plain m e = absurd (let z : ◌≡◌ {A = ℕ} 0 1 = cc in omega arith)

live_means : (l : List ℕ) (a : ℕ) (s : Standing) → MeansAt l a s → is_vacant s ≡ false → LiveAt l a
live_means l a NeverUsed m e = absurd (let z : ◌≡◌ {A = ℕ} 0 1 = cc in omega arith)
live_means l a Erased m e = absurd (let z : ◌≡◌ {A = ℕ} 0 1 = cc in omega arith)
live_means l a Label m e = m.0
live_means l a Plain m e = m.0

plain_means : (l : List ℕ) (a : ℕ) (s : Standing) → MeansAt l a s → is_plain s ≡ true → PlainAt l a
plain_means l a NeverUsed m e = absurd (let z : ◌≡◌ {A = ℕ} 0 1 = cc in omega arith)
plain_means l a Erased m e = absurd (let z : ◌≡◌ {A = ℕ} 0 1 = cc in omega arith)
plain_means l a Label m e = absurd (let z : ◌≡◌ {A = ℕ} 0 1 = cc in omega arith)
plain_means l a Plain m e = m

module _ (l : List ℕ) (a : ℕ) where
  pub standing_never_used : (standing_of l a ≡ NeverUsed) ↔ NeverUsedAt l a
  standing_never_used = (λ e. subst (MeansAt l a) e (means l a), λ p. sym (never_used_lem (get_or l a 0) (attr_of l a) p))

  pub standing_erased : (standing_of l a ≡ Erased) ↔ ErasedAt l a
  standing_erased = (λ e. subst (MeansAt l a) e (means l a), λ p. sym (erased (get_or l a 0) (attr_of l a) p))

  pub standing_label : (standing_of l a ≡ Label) ↔ LabelAt l a
  standing_label =
      (λ e. subst (MeansAt l a) e (means l a), λ p. sym (label (get_or l a 0) (attr_of l a) p.0.0 p.0.1 (has_bit (attr_of l a) 0x08) refl p.1))

  pub standing_plain : (standing_of l a ≡ Plain) ↔ PlainAt l a
  standing_plain =
      (λ e. subst (MeansAt l a) e (means l a), λ p. sym (plain (get_or l a 0) (attr_of l a) p.0.0 p.0.1 (has_bit (attr_of l a) 0x08) refl p.1))

  pub vacant_is : (is_vacant (standing_of l a) ≡ true) ↔ VacantAt l a
  vacant_is = (open_means l a (standing_of l a) (means l a), from)
    where
      from : VacantAt l a → is_vacant (standing_of l a) ≡ true
      from (inl p) = rw (standing_erased.1 p)
      from (inr p) = rw (standing_never_used.1 p)

  pub live_is : (is_vacant (standing_of l a) ≡ false) ↔ LiveAt l a
  live_is = (live_means l a (standing_of l a) (means l a), λ v. from v (is_vacant (standing_of l a)) refl)
    where
      from : LiveAt l a → (b : Bool) → is_vacant (standing_of l a) ≡ b → is_vacant (standing_of l a) ≡ false
      from v true e = absurd (elim (vacant_is.0 e) [ inl q ↦ v.1 q | inr q ↦ v.0 q ])
      from v false e = e

  pub plain_is : (is_plain (standing_of l a) ≡ true) ↔ PlainAt l a
  plain_is = (plain_means l a (standing_of l a) (means l a), λ p. rw (standing_plain.1 p))
