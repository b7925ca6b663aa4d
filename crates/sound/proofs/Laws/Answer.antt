-- What is computed is what document 01 says: the first finding at its lowest place, or sound with the counts.
use Rattle.std.specs.Prelude.{ℕ, ◌*◌, ◌≤◌, ◌<◌, List, ◌≡◌, refl, ltb, length, Option, Some, None, Result}
use Rattle.std.proofs.Common.{arith}
use Rattle.chains.proofs.Laws.Check.{found_no_value}
use Rattle.chains.proofs.Laws.Findings.{check_chains_lem}
use Rattle.chains.proofs.Laws.Rows.{found_bad_chain}
use Rattle.chains.proofs.Laws.Verdict.{or_else_lem}
use Rattle.diskette.specs.Images.{kind_of_image, kind_of_area}
use Rattle.diskette.specs.Aids.Usable.{Usable}
use Rattle.diskette.specs.Places.{cluster_bytes, last_cluster, root_entries, slot_at, first_data}
use Rattle.diskette.specs.declared.Kind.{Kind}
use Rattle.diskette.proofs.Laws.Images.{image_of_kind, area_of_kind, image_usable, area_usable, image_has_area}
use Rattle.chaincheck.specs.Aids.Entries.{bad_chain_slot, holder_at}
use Rattle.sound.specs.Answer.{AnswersOf, AnswersBy, Checked, CheckedArea}
use Rattle.sound.specs.Files.{value_of}
use Rattle.sound.specs.Aids.FromFinding.{Counted, FromLost, FromTwo, FromChains, FromSlots, FromValues}
use Rattle.sound.specs.Findings.{TablesDiffer, NoValue, BadSlot, BadChain, InTwoChains, Lost}
use Rattle.sound.specs.Aids.Holders.{root_rows}
use Rattle.sound.specs.Judged.{check_of, check_of_area}
use Rattle.sound.specs.Aids.Judged.{marks_of_files, voice, judged, judged_by}
use Rattle.sound.proofs.Laws.BadSlot.{found_bad_slot}
use Rattle.sound.proofs.Laws.Chains.{bad_chain_as, in_two_as, lost_as}
use Rattle.sound.proofs.Laws.Geometry.{geometry}
use Rattle.sound.proofs.Laws.Held.{found_counted}
use Rattle.sound.proofs.Laws.Holders.{slots_once}
use Rattle.sound.proofs.Laws.SamePlaces.{or_else_as, turned}
use Rattle.sound.proofs.Laws.Copies.{found_difference}
use Rattle.sound.specs.Numbers.{found}
use Rattle.sound.specs.declared.Counts.{Counts}
use Rattle.sound.specs.declared.Finding.{Finding}
use Rattle.sound.specs.declared.Finding.TheVariants.{CopiesDiffer, BadValue, BadEntry, WrongChain, SharedCluster, LostCluster}
use Rattle.chains.specs.Aids.Findings as Theory

-- the theory's answer from finding 5 on is document 01's
chains_answer : (k : Kind) (u : Usable k) (l : List ℕ) (v : Result Counts Finding) → Theory.FromChains ltb (last_cluster k) (value_of k l) (holder_at (cluster_bytes k) l) (root_rows k) (voice k l) v → FromChains k l v
chains_answer k u l v =
    let last = last_cluster k in
    let f = value_of k l in
    let h = holder_at (cluster_bytes k) l in
    let at : (s : ℕ) → s < root_entries k → h (slot_at k s) ≡ h (slot_at k s) = λ s i. refl in
    or_else_as ltb _ (BadChain k l) (λ s. turned (bad_chain_as k u l h at s)) (found WrongChain) (Theory.FromTwo last f h (root_rows k) (voice k l)) (FromTwo k l) v (λ n5.
    or_else_as ltb _ (InTwoChains k l) (λ c. turned (in_two_as k u l h at c)) (found SharedCluster) (Theory.FromLost last f h (root_rows k) (voice k l)) (FromLost k l) v (λ n6.
    or_else_as ltb _ (Lost k l) (λ c. turned (lost_as k u l h at c)) (found LostCluster) (λ a. a ≡ (voice k l).fine) (Counted k l) v (λ n7. found_counted k u l n5 v)))

pub judged_answers : (k : Kind) (l : List ℕ) → Usable k → 512 * first_data k ≤ length l → AnswersOf k l (judged k l)
unfolding judged marks_of_files bad_chain_slot
judged_answers k l u long =
    let G = geometry k u in
    let f = value_of k l in
    let h = holder_at (cluster_bytes k) l in
    or_else_lem ltb (TablesDiffer k l) (found CopiesDiffer) (FromValues k l) _ _ (found_difference k l) (λ n2.
    or_else_lem ltb (NoValue k l) (found BadValue) (FromSlots k l) _ _ (found_no_value G f) (λ n3.
    or_else_lem ltb (BadSlot k l) (found BadEntry) (FromChains k l) _ _ (found_bad_slot k l long) (λ n4.
    chains_answer k u l _ (check_chains_lem ltb G f h (root_rows k) (voice k l) 4080 (omega (arith, u.below_reserved)) (slots_once k) _ _ (found_bad_chain G f h (slot_at k) (root_entries k)) (λ n5. refl)))))

-- ---- an image, and a system area alone

answers_by : (w : Option Kind) (l : List ℕ) → ((k : Kind) → w ≡ Some k → AnswersOf k l (judged k l)) → AnswersBy w l (judged_by w l)
answers_by (Some k) l a = a k refl
answers_by None l a = refl

module _ (l : List ℕ) where
  pub check_answers : Checked l (check_of l)
  unfolding check_of
  check_answers = record {
    is = answers_by (kind_of_image l) l (λ k e.
        let u = image_usable l k e in
        judged_answers k l u (image_has_area l k ((image_of_kind l k).0 e) u));
  }

  pub area_answers : CheckedArea l (check_of_area l)
  unfolding check_of_area
  area_answers = record {
    is = answers_by (kind_of_area l) l (λ k e.
        let u = area_usable l k e in
        judged_answers k l u ((area_of_kind l k).0 e).long);
  }
