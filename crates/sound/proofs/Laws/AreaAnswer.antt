-- Volumes with the same system area are answered alike: sound or not, and an image like its system area alone.
use Rattle.std.specs.Prelude.{ℕ, List, ◌↔◌, ◌≡◌, ltb, Option, Some, Result}
use Rattle.std.proofs.Common.{arith, sym, ◌∙◌, subst}
use Rattle.diskette.specs.Images.{OfKind, AreaOf, kind_of_image, kind_of_area}
use Rattle.diskette.specs.Aids.Usable.{Usable}
use Rattle.diskette.specs.declared.Kind.{Kind}
use Rattle.diskette.proofs.Laws.Images.{image_of_kind, area_of_kind, image_usable}
use Rattle.sound.specs.Answer.{AnswersOf, AnswersBy, Checked, CheckedArea}
use Rattle.sound.specs.Aids.Area.{SameArea}
use Rattle.sound.specs.Findings.{TablesDiffer, NoValue, BadSlot, BadChain, InTwoChains, Lost}
use Rattle.sound.specs.Aids.FromFinding.{Counted, FromLost, FromTwo, FromChains, FromSlots, FromValues}
use Rattle.sound.specs.Sound.{Sound, NoFinding}
use Rattle.sound.proofs.Laws.Area.{area_back, tables_alike, values_alike, slots_alike, chains_alike, two_alike, lost_alike, counted_as}
use Rattle.sound.proofs.Laws.SamePlaces.{none_as, or_else_as}
use Rattle.sound.proofs.Laws.Sound.{sound_exactly}
use Rattle.sound.specs.Numbers.{found}
use Rattle.sound.specs.declared.Counts.{Counts}
use Rattle.sound.specs.declared.Finding.{Finding}
use Rattle.sound.specs.declared.Finding.TheVariants.{CopiesDiffer, BadValue, BadEntry, WrongChain, SharedCluster, LostCluster}

module _ (k : Kind) (u : Usable k) (m l : List ℕ) (e : SameArea k m l) where
  pub answers_as : (v : Result Counts Finding) → AnswersOf k m v → AnswersOf k l v
  answers_as v =
      or_else_as ltb (TablesDiffer k m) (TablesDiffer k l) (tables_alike k u m l e) (found CopiesDiffer) (FromValues k m) (FromValues k l) v (λ n2.
      or_else_as ltb (NoValue k m) (NoValue k l) (values_alike k u m l e) (found BadValue) (FromSlots k m) (FromSlots k l) v (λ n3.
      or_else_as ltb (BadSlot k m) (BadSlot k l) (slots_alike k u m l e) (found BadEntry) (FromChains k m) (FromChains k l) v (λ n4.
      or_else_as ltb (BadChain k m) (BadChain k l) (chains_alike k u m l e) (found WrongChain) (FromTwo k m) (FromTwo k l) v (λ n5.
      or_else_as ltb (InTwoChains k m) (InTwoChains k l) (two_alike k u m l e) (found SharedCluster) (FromLost k m) (FromLost k l) v (λ n6.
      or_else_as ltb (Lost k m) (Lost k l) (lost_alike k u m l e) (found LostCluster) (Counted k m) (Counted k l) v (λ n7. counted_as k u m l e v))))))

  pub no_finding_as : NoFinding k m → NoFinding k l
  no_finding_as n = record {
    tables = none_as (TablesDiffer k m) (TablesDiffer k l) (tables_alike k u m l e) n.tables;
    values = none_as (NoValue k m) (NoValue k l) (values_alike k u m l e) n.values;
    slots = none_as (BadSlot k m) (BadSlot k l) (slots_alike k u m l e) n.slots;
    chains = none_as (BadChain k m) (BadChain k l) (chains_alike k u m l e) n.chains;
    two = none_as (InTwoChains k m) (InTwoChains k l) (two_alike k u m l e) n.two;
    lost = none_as (Lost k m) (Lost k l) (lost_alike k u m l e) n.lost;
  }

  pub sound_as : Sound k m → Sound k l
  sound_as v = (sound_exactly k u l).1 (no_finding_as ((sound_exactly k u m).0 v))

-- ---- an image of the kind k, and its system area with or without more bytes behind it

module _ (k : Kind) (img area : List ℕ) (o : OfKind img k) (e : SameArea k area img) where
  usable : Usable k
  usable = image_usable img k ((image_of_kind img k).1 o)

  area_of_image : AreaOf area k
  area_of_image = record { listed = o.listed; long = e.left_long; byte = e.bytes 512 (omega (arith, usable.reaches)) ∙ o.byte }

  image_by : kind_of_image img ≡ Some k
  image_by = (image_of_kind img k).1 o

  area_by : kind_of_area area ≡ Some k
  area_by = (area_of_kind area k).1 area_of_image

  pub area_as_image : (v : Result Counts Finding) → CheckedArea area v ↔ Checked img v
  area_as_image v = (
    λ c. record { is = subst (λ (w : Option Kind). AnswersBy w img v) (sym image_by) (answers_as k usable area img e v (subst (λ (w : Option Kind). AnswersBy w area v) area_by c.is)) },
    λ c. record { is = subst (λ (w : Option Kind). AnswersBy w area v) (sym area_by) (answers_as k usable img area (area_back k area img e) v (subst (λ (w : Option Kind). AnswersBy w img v) image_by c.is)) },
  )
