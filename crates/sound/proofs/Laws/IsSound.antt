-- The test that the calls make: true exactly where the image is of a kind and sound, false exactly where it isn't.
use Rattle.std.specs.Prelude.{ℕ, true, false, List, ◌↔◌, ◌≡◌, refl, ltb, Option, Some, None, Result}
use Rattle.std.proofs.Common.{arith, inl, inr, sym, ap, ◌∙◌, subst}
use Rattle.chains.specs.Aids.Tests.{Says, aye, nay}
use Rattle.chains.specs.Verdict.{OrElse}
use Rattle.search.specs.Search.{Nowhere}
use Rattle.chains.proofs.Laws.Tests.{says_true, says_false, true_says, false_says, says_map}
use Rattle.diskette.specs.Images.{kind_of_image, kind_of_area, OfKind, AreaOf}
use Rattle.diskette.specs.declared.Kind.{Kind}
use Rattle.diskette.proofs.Laws.Images.{image_of_kind, area_of_kind, image_usable, area_usable}
use Rattle.diskette.specs.Aids.Usable.{Usable}
use Rattle.sound.specs.Answer.{AnswersOf, AnswersBy}
use Rattle.sound.specs.Findings.{TablesDiffer, NoValue, BadSlot, BadChain, InTwoChains, Lost}
use Rattle.sound.specs.Aids.FromFinding.{FromLost, FromTwo, FromChains, FromSlots, FromValues, Counted}
use Rattle.sound.specs.Judged.{check_of, check_of_area, is_sound}
use Rattle.sound.specs.Aids.Judged.{is_sound_verdict}
use Rattle.sound.specs.Sound.{Sound, NoFinding}
use Rattle.sound.proofs.Laws.Answer.{check_answers, area_answers}
use Rattle.sound.proofs.Laws.Sound.{sound_exactly}
use Rattle.sound.specs.Numbers.{found}
use Rattle.sound.specs.declared.Counts.{Counts}
use Rattle.sound.specs.declared.Finding.{Finding}
use Rattle.sound.specs.declared.Finding.TheVariants.{CopiesDiffer, BadValue, BadEntry, WrongChain, SharedCluster, LostCluster}

-- a finding is no answer of a sound volume
after : (B : ℕ → Type 0) (finding : ℕ → Finding) (Rest : Result Counts Finding → Type 0) (P : Type 0) (v : Result Counts Finding) → (P → Nowhere B) → (Nowhere B → Rest v → Says (is_sound_verdict v) P)
    → OrElse ltb B (found finding) Rest v → Says (is_sound_verdict v) P
after B finding Rest P v none rest (inl x) = nay (ap is_sound_verdict x.2) (λ p. none p x.0 x.1.0)
after B finding Rest P v none rest (inr x) = rest x.0 x.1

pub says_no_finding : (k : Kind) (l : List ℕ) (v : Result Counts Finding) → AnswersOf k l v → Says (is_sound_verdict v) (NoFinding k l)
says_no_finding k l v =
    let P = NoFinding k l in
    after (TablesDiffer k l) CopiesDiffer (FromValues k l) P v (λ n. n.tables) (λ n2.
    after (NoValue k l) BadValue (FromSlots k l) P v (λ n. n.values) (λ n3.
    after (BadSlot k l) BadEntry (FromChains k l) P v (λ n. n.slots) (λ n4.
    after (BadChain k l) WrongChain (FromTwo k l) P v (λ n. n.chains) (λ n5.
    after (InTwoChains k l) SharedCluster (FromLost k l) P v (λ n. n.two) (λ n6.
    after (Lost k l) LostCluster (Counted k l) P v (λ n. n.lost) (λ n7 e.
    aye (ap is_sound_verdict e.2) (record { tables = n2; values = n3; slots = n4; chains = n5; two = n6; lost = n7 })))))))

-- a volume of the kind that was found, if one was
says_by : (w : Option Kind) (l : List ℕ) (v : Result Counts Finding) → ((k : Kind) → w ≡ Some k → Usable k) → AnswersBy w l v → Says (is_sound_verdict v) ((k : Kind) × (w ≡ Some k) × Sound k l)
says_by (Some k) l v usable a =
    says_map (λ n. (k, refl, (sound_exactly k (usable k refl) l).1 n)) (λ r. let e : r.0 ≡ k = cc r.1 in (sound_exactly k (usable k refl) l).0 (subst (λ (x : Kind). Sound x l) e r.2)) (says_no_finding k l v a)
says_by None l v usable a = nay (ap is_sound_verdict a) (λ r. let z : ◌≡◌ {A = ℕ} 0 1 = cc r.1 in omega arith)

module _ (l : List ℕ) where
  pub says_sound : Says (is_sound l) ((k : Kind) × OfKind l k × Sound k l)
  unfolding is_sound
  says_sound = says_map (λ r. (r.0, (image_of_kind l r.0).0 r.1, r.2)) (λ r. (r.0, (image_of_kind l r.0).1 r.1, r.2))
      (says_by (kind_of_image l) l (check_of l) (image_usable l) (check_answers l).is)

  -- in the form of the calls' need: the kind is known already
  pub known_says : (k : Kind) → kind_of_image l ≡ Some k → Says (is_sound l) (Sound k l)
  known_says k e = says_map (λ r. subst (λ (x : Kind). Sound x l) (same r.0 r.1) r.2) (λ v. (k, (image_of_kind l k).0 e, v)) says_sound
    where
      same : (x : Kind) → OfKind l x → x ≡ k
      same x o = let q : Some x ≡ Some k = sym ((image_of_kind l x).1 o) ∙ e in cc

  -- Sound means that none of the seven holds. (The first is that the image is of no kind.)
  pub sound_means : (k : Kind) → OfKind l k → Sound k l ↔ NoFinding k l
  sound_means k o = sound_exactly k (image_usable l k ((image_of_kind l k).1 o)) l

  pub is_sound_lem : (is_sound l ≡ true) ↔ ((k : Kind) × OfKind l k × Sound k l)
  is_sound_lem = (says_true says_sound, true_says says_sound)

  pub not_sound_lem : (is_sound l ≡ false) ↔ ((k : Kind) → OfKind l k → ¬ Sound k l)
  not_sound_lem = (λ e k o v. says_false says_sound e (k, o, v), λ n. false_says says_sound (λ r. n r.0 r.1 r.2))

  -- check on a system area alone answers sound exactly where its volume is
  pub says_area_sound : Says (is_sound_verdict (check_of_area l)) ((k : Kind) × AreaOf l k × Sound k l)
  says_area_sound = says_map (λ r. (r.0, (area_of_kind l r.0).0 r.1, r.2)) (λ r. (r.0, (area_of_kind l r.0).1 r.1, r.2))
      (says_by (kind_of_area l) l (check_of_area l) (area_usable l) (area_answers l).is)
