-- The blank volume of a kind is sound: it has no file.
use Rattle.std.specs.Prelude.{ℕ, [], ◌≡◌, Some}
use Rattle.std.proofs.Common.{arith, inl, inr}
use Rattle.chains.specs.Values.{free}
use Rattle.chains.proofs.Laws.Tests.{true_says}
use Rattle.chains.proofs.Laws.Values.{free_no_use}
use Rattle.diskette.specs.Kinds.{named}
use Rattle.diskette.specs.Aids.Usable.{Usable}
use Rattle.diskette.specs.Places.{last_cluster}
use Rattle.diskette.specs.declared.Kind.{Kind}
use Rattle.sound.specs.Files.{value_of, IsFile}
use Rattle.sound.specs.Sound.{Sound}
use Rattle.sound.proofs.Laws.Copies.{no_difference_from}
use Rattle.sound.proofs.Laws.IsSound.{known_says}
use Rattle.calls.specs.Aids.Ready.{OnVolume}
use Rattle.formatting.specs.Format.{blank}
use Rattle.formatting.proofs.Laws.Blank.{blank_head, blank_agrees, blank_table, blank_slot, kind_of_blank}

module _ (k : Kind) (u : Usable k) where
  pub blank_no_file : (s : ℕ) → ¬ IsFile k (blank k) s
  blank_no_file s i = i.plain.0.0 (blank_slot k u s i.below)

  pub blank_sound : Sound k (blank k)
  blank_sound = (
    λ s. [],
    record {
      tables = no_difference_from k (blank k) (blank_agrees k u) (blank_head k u 1 (omega arith)) (blank_head k u 2 (omega arith));
      values = λ c x. x.1 (free (blank_table k u c));
      slots = λ s x. elim x.1 [
        | inl y ↦ y.0 (blank_slot k u s x.0)
        | inr y ↦ elim y [
          | inl z ↦ z.0.0 (blank_slot k u s x.0)
          | inr z ↦ elim z [
            | inl v ↦ v.0.0.0 (blank_slot k u s x.0)
            | inr v ↦ v.0.0.0 (blank_slot k u s x.0)
          ]
        ]
      ];
      chains = λ s i. absurd (blank_no_file s i);
      apart = λ s t c i j x y. absurd (blank_no_file s i);
      covered = λ c h x. absurd (free_no_use (last_cluster k) (value_of k (blank k) c) (blank_table k u c) x);
    },
  )

  pub blank_on : named k.byte ≡ Some k → OnVolume (blank k) k
  blank_on named_so = let known = kind_of_blank k u named_so in record { known = known; sound = true_says (known_says (blank k) k known) blank_sound }
