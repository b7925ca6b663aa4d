-- Free space: in the form of the code's needs, what its answer means, and that one answer only is allowed.
use Rattle.std.specs.Prelude.{ℕ, List, ◌≡◌, Option, Some, None, Result, Ok, Err}
use Rattle.std.proofs.Common.{ap, sym, ◌∙◌, inl, inr}
use Rattle.chains.proofs.Laws.Tests.{true_says, false_says}
use Rattle.diskette.specs.Images.{kind_of_image}
use Rattle.diskette.specs.declared.Kind.{Kind}
use Rattle.sound.specs.Counts.{free_of}
use Rattle.sound.specs.Sound.{Sound}
use Rattle.sound.proofs.Laws.IsSound.{known_says}
use Rattle.calls.specs.Aids.Ready.{ready_of}
use Rattle.calls.proofs.Laws.Ready.{Because, ready_on, ready_free, refused_because}
use Rattle.calls.specs.declared.refusal.Refusal.{Refusal}
use Rattle.calls.specs.declared.refusal.Refusal.TheVariants.{OfNoKind, Unsound}
use Rattle.freespace.specs.FreeSpace.{space_with, space_on, free_space, Spaced}
use Rattle.freespace.specs.declared.Space.{Space}

-- ---- the whole answer: r is what ready answered

module _ (l : List ℕ) (r : Result (Kind × ℕ) Refusal) (p : r ≡ ready_of l) where
  pub spaced : (k : Kind) (free : ℕ) → r ≡ Ok (k, free) → (x : Space) → x ≡ space_with k free → Spaced l (Ok x)
  unfolding free_space
  spaced k free q x h = let v = ready_on l r p k free q in record { is = rw (v.known, v.sound, h, ready_free l r p k free q) }

  pub not_spaced : (e : Refusal) → r ≡ Err e → (x : Result Space Refusal) → x ≡ Err e → Spaced l x
  unfolding free_space
  not_spaced e q x h = by e (refused_because l r p e q) x h
    where
      by : (d : Refusal) → Because l d → (y : Result Space Refusal) → y ≡ Err d → Spaced l y
      by d (inl z) y i = record { is = rw z.0 (i ∙ ap Err (sym z.1)) }
      by d (inr z) y i = record { is = rw (z.1, z.2) (i ∙ ap Err (sym z.3)) }

-- ---- what the answer means

module _ (l : List ℕ) where
  pub space_unknown : kind_of_image l ≡ None → free_space l ≡ Err OfNoKind
  unfolding free_space
  space_unknown q = rw q

  module _ (k : Kind) (q : kind_of_image l ≡ Some k) where
    -- 41 stands for a volume that is not sound, and for nothing else
    pub space_unsound : ¬ Sound k l → free_space l ≡ Err Unsound
    unfolding free_space
    space_unsound n = rw (q, false_says (known_says l k q) n)

    pub space_sound : Sound k l → free_space l ≡ Ok (space_with k (free_of k l))
    unfolding free_space
    space_sound s = rw (q, true_says (known_says l k q) s)

-- ---- no second answer satisfies the contract

pub spaced_only : (img : List ℕ) (x y : Result Space Refusal) → Spaced img x → Spaced img y → x ≡ y
spaced_only img x y s t = s.is ∙ sym t.is
