-- Finding 2: the search over the bytes of the copies finds what there is; none of it means that the copies agree and
-- that bytes 1 and 2 are FF.
use Rattle.std.specs.Prelude.{ℕ, ◌+◌, ◌*◌, ◌<◌, List, ◌⊎◌, ◌≡◌, refl, ltb, get_or}
use Rattle.std.proofs.Common.{arith, inl, inr, ap, ◌∙◌}
use Rattle.std.proofs.Math.Decide.{ℕ_discrete}
use Rattle.chains.specs.Aids.Tests.{Says}
use Rattle.search.specs.Search.{lowest, Nowhere}
use Rattle.chains.specs.Aids.Verdict.{Finds}
use Rattle.chains.proofs.Laws.Tests.{says_eq, says_and, says_or, says_not, says_map}
use Rattle.chains.proofs.Laws.Verdict.{lowest_finds}
use Rattle.diskette.specs.Aids.Usable.{Usable}
use Rattle.diskette.specs.Places.{copy_one, copy_two}
use Rattle.diskette.specs.declared.Kind.{Kind}
use Rattle.table.specs.Aids.Copies.{Agree}
use Rattle.tablecheck.specs.Aids.Copies.{differs_at}
use Rattle.sound.specs.Findings.{TablesDiffer}

pub says_differs : (k : Kind) (l : List ℕ) (j : ℕ) → j < 512 * k.fat → Says (differs_at (copy_two k) l j) (TablesDiffer k l j)
unfolding differs_at
says_differs k l j h =
    let one = get_or l (copy_one + j) 0 in
    let two = get_or l (copy_two k + j) 0 in
    says_map (λ r. (h, elim r [ inl x ↦ inr x | inr x ↦ inl x ])) (λ r. elim r.1 [ inl x ↦ inr x | inr x ↦ inl x ])
    (says_or (says_not (says_eq one two)) (says_and (says_or (says_eq j 1) (says_eq j 2)) (says_not (says_eq one 0xFF))))

pub found_difference : (k : Kind) (l : List ℕ) → Finds ltb (TablesDiffer k l) (lowest (differs_at (copy_two k) l) 0 (512 * k.fat))
found_difference k l =
    lowest_finds (TablesDiffer k l) (differs_at (copy_two k) l) 0 (512 * k.fat) (λ j b. (omega arith, omega (arith, b.0))) (λ j h i. says_differs k l j (omega arith))

module _ (k : Kind) (l : List ℕ) where
  pub no_difference : Usable k → Nowhere (TablesDiffer k l) → Agree (copy_two k) (512 * k.fat) l × (get_or l (copy_one + 1) 0 ≡ 0xFF) × (get_or l (copy_one + 2) 0 ≡ 0xFF)
  no_difference u n = (agree, byte 1 (omega (arith, u.reaches)) (inl refl), byte 2 (omega (arith, u.reaches)) (inr refl))
    where
      agree : (j : ℕ) → j < 512 * k.fat → get_or l (copy_one + j) 0 ≡ get_or l (copy_two k + j) 0
      agree j h = elim (ℕ_discrete (get_or l (copy_one + j) 0) (get_or l (copy_two k + j) 0)) [ yes e ↦ e | no d ↦ absurd (n j (h, inr d)) ]

      byte : (j : ℕ) → j < 512 * k.fat → (j ≡ 1) ⊎ (j ≡ 2) → get_or l (copy_one + j) 0 ≡ 0xFF
      byte j h w = elim (ℕ_discrete (get_or l (copy_one + j) 0) 0xFF) [ yes e ↦ e | no d ↦ absurd (n j (h, inl (w, d))) ]

  pub no_difference_from : Agree (copy_two k) (512 * k.fat) l → get_or l (copy_one + 1) 0 ≡ 0xFF → get_or l (copy_one + 2) 0 ≡ 0xFF → Nowhere (TablesDiffer k l)
  no_difference_from agree one two j (h, inl ((inl e), d)) = d (ap (λ (x : ℕ). get_or l (copy_one + x) 0) e ∙ one)
  no_difference_from agree one two j (h, inl ((inr e), d)) = d (ap (λ (x : ℕ). get_or l (copy_one + x) 0) e ∙ two)
  no_difference_from agree one two j (h, inr d) = d (agree j h)
