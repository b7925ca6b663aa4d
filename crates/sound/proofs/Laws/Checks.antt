-- Check of an image and of a system area, in the form of the code's needs: r is the kind that was found.
use Rattle.std.specs.Prelude.{ℕ, ◌*◌, ◌≤◌, List, ◌≡◌, length, Option, Some, Result}
use Rattle.std.proofs.Common.{sym, ◌∙◌, subst}
use Rattle.diskette.specs.Aids.Usable.{Usable}
use Rattle.diskette.specs.Places.{first_data}
use Rattle.diskette.specs.Images.{kind_of_image, kind_of_area}
use Rattle.diskette.proofs.Laws.Images.{image_of_kind, image_usable, image_has_area, area_of_kind, area_usable}
use Rattle.diskette.specs.declared.Kind.{Kind}
use Rattle.sound.specs.Answer.{AnswersBy, Checked, CheckedArea}
use Rattle.sound.specs.Aids.Judged.{judged}
use Rattle.sound.proofs.Laws.Answer.{judged_answers}
use Rattle.sound.specs.declared.Counts.{Counts}
use Rattle.sound.specs.declared.Finding.{Finding}

-- a usable kind, whose system area the bytes have, is answered for by what was judged
judged_fits : (k : Kind) (l : List ℕ) → Usable k → 512 * first_data k ≤ length l → (w : Option Kind) → w ≡ Some k → (v : Result Counts Finding) → v ≡ judged k l → AnswersBy w l v
judged_fits k l u h w q v e = subst (λ (x : Option Kind). AnswersBy x l v) (sym q) (rw e (judged_answers k l u h))

module _ (l : List ℕ) (r : Option Kind) (k : Kind) where
  module _ (e : r ≡ kind_of_image l) (q : r ≡ Some k) where
    pub image_kind : Usable k
    image_kind = image_usable l k (sym e ∙ q)

    pub image_area : 512 * first_data k ≤ length l
    image_area = image_has_area l k ((image_of_kind l k).0 (sym e ∙ q)) image_kind

    pub image_judged : (v : Result Counts Finding) → v ≡ judged k l → Checked l v
    image_judged v w = record { is = judged_fits k l image_kind image_area (kind_of_image l) (sym e ∙ q) v w }

  module _ (e : r ≡ kind_of_area l) (q : r ≡ Some k) where
    pub area_kind : Usable k
    area_kind = area_usable l k (sym e ∙ q)

    pub area_reached : 512 * first_data k ≤ length l
    area_reached = ((area_of_kind l k).0 (sym e ∙ q)).long

    pub area_judged : (v : Result Counts Finding) → v ≡ judged k l → CheckedArea l v
    area_judged v w = record { is = judged_fits k l area_kind area_reached (kind_of_area l) (sym e ∙ q) v w }
