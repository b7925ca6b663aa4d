-- What check answers: "Findings in this order; check answers the first with its place, else sound with the counts".
use Rattle.std.specs.Prelude.{ℕ, List, ◌≡◌, ltb, Option, Some, None, Result, Ok, Err}
use Rattle.chains.specs.Verdict.{OrElse}
use Rattle.diskette.specs.Images.{kind_of_image, kind_of_area}
use Rattle.diskette.specs.declared.Kind.{Kind}
use Rattle.sound.specs.Findings.{TablesDiffer, NoValue, BadSlot, BadChain, InTwoChains, Lost}
use Rattle.sound.specs.Files.{AreChains}
use Rattle.sound.specs.Counts.{counts_of}
use Rattle.sound.specs.Numbers.{found}
use Rattle.sound.specs.declared.Counts.{Counts}
use Rattle.sound.specs.declared.Finding.{Finding}
use Rattle.sound.specs.declared.Finding.TheVariants.{OfNoKind, CopiesDiffer, BadValue, BadEntry, WrongChain, SharedCluster, LostCluster}

-- of a volume of the kind k: each finding at its lowest place, unless one before it holds anywhere; else sound with the counts, by
-- lists that are the files' chains
abbrev pub AnswersOf : Kind → List ℕ → Result Counts Finding → Type 0
AnswersOf k l =
    OrElse ltb (TablesDiffer k l) (found CopiesDiffer)
    (OrElse ltb (NoValue k l) (found BadValue)
    (OrElse ltb (BadSlot k l) (found BadEntry)
    (OrElse ltb (BadChain k l) (found WrongChain)
    (OrElse ltb (InTwoChains k l) (found SharedCluster)
    (OrElse ltb (Lost k l) (found LostCluster)
    (λ v. (lists : ℕ → List ℕ) × AreChains k l lists × (v ≡ Ok (counts_of k l lists))))))))

-- 1. Not of a kind, or a system area that ends before the first data sector; place 0.
abbrev pub AnswersBy : Option Kind → List ℕ → Result Counts Finding → Type 0
AnswersBy (Some k) l v = AnswersOf k l v
AnswersBy None l v = v ≡ Err OfNoKind

-- v is what check answers of an image
pub record Checked (img : List ℕ) (v : Result Counts Finding) : Type 0 where
  pub is : AnswersBy (kind_of_image img) img v

-- v is what check answers of a system area alone
pub record CheckedArea (area : List ℕ) (v : Result Counts Finding) : Type 0 where
  pub is : AnswersBy (kind_of_area area) area v
