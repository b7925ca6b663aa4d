-- Only one answer fits: what check answers is settled by the bytes alone.
use Rattle.std.specs.Prelude.{ℕ, List, ◌≡◌, refl, ltb, Option, Some, None, Result}
use Rattle.std.proofs.Common.{sym, ◌∙◌}
use Rattle.chains.proofs.Laws.Verdict.{numbers, or_else_same}
use Rattle.diskette.specs.Images.{kind_of_image, kind_of_area}
use Rattle.diskette.specs.Aids.Usable.{Usable}
use Rattle.diskette.proofs.Laws.Images.{image_usable, area_usable}
use Rattle.diskette.specs.declared.Kind.{Kind}
use Rattle.sound.specs.Answer.{AnswersOf, AnswersBy, Checked, CheckedArea}
use Rattle.sound.specs.Findings.{TablesDiffer, NoValue, BadSlot, BadChain, InTwoChains, Lost}
use Rattle.sound.specs.Aids.FromFinding.{Counted, FromLost, FromTwo, FromChains, FromSlots, FromValues}
use Rattle.sound.specs.Judged.{check_of, check_of_area}
use Rattle.sound.proofs.Laws.Answer.{check_answers, area_answers}
use Rattle.sound.proofs.Laws.Held.{counted_only}
use Rattle.sound.specs.Numbers.{found}
use Rattle.sound.specs.declared.Counts.{Counts}
use Rattle.sound.specs.declared.Finding.{Finding}
use Rattle.sound.specs.declared.Finding.TheVariants.{CopiesDiffer, BadValue, BadEntry, WrongChain, SharedCluster, LostCluster}

pub answers_only : (k : Kind) → Usable k → (l : List ℕ) (v w : Result Counts Finding) → AnswersOf k l v → AnswersOf k l w → v ≡ w
answers_only k u l =
    or_else_same ltb numbers (TablesDiffer k l) (found CopiesDiffer) (FromValues k l)
    (or_else_same ltb numbers (NoValue k l) (found BadValue) (FromSlots k l)
    (or_else_same ltb numbers (BadSlot k l) (found BadEntry) (FromChains k l)
    (or_else_same ltb numbers (BadChain k l) (found WrongChain) (FromTwo k l)
    (or_else_same ltb numbers (InTwoChains k l) (found SharedCluster) (FromLost k l)
    (or_else_same ltb numbers (Lost k l) (found LostCluster) (Counted k l) (counted_only k u l))))))

only_by : (kind : Option Kind) (l : List ℕ) → ((k : Kind) → kind ≡ Some k → Usable k) → (v w : Result Counts Finding) → AnswersBy kind l v → AnswersBy kind l w → v ≡ w
only_by (Some k) l u v w x y = answers_only k (u k refl) l v w x y
only_by None l u v w x y = x ∙ sym y

pub checked_only : {img : List ℕ} {v w : Result Counts Finding} → Checked img v → Checked img w → v ≡ w
checked_only {img} {v} {w} x y = only_by (kind_of_image img) img (image_usable img) v w x.is y.is

pub area_only : {area : List ℕ} {v w : Result Counts Finding} → CheckedArea area v → CheckedArea area w → v ≡ w
area_only {area} {v} {w} x y = only_by (kind_of_area area) area (area_usable area) v w x.is y.is

-- so it is what is computed
module _ {l : List ℕ} {v : Result Counts Finding} where
  pub checked_is : Checked l v → v ≡ check_of l
  checked_is x = checked_only x (check_answers l)

  pub area_is : CheckedArea l v → v ≡ check_of_area l
  area_is x = area_only x (area_answers l)
