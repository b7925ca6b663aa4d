-- The answer from each finding on, as Answer nests them.
use Rattle.std.specs.Prelude.{ℕ, List, ◌≡◌, ltb, Result, Ok}
use Rattle.chains.specs.Verdict.{OrElse}
use Rattle.diskette.specs.declared.Kind.{Kind}
use Rattle.sound.specs.Findings.{NoValue, BadSlot, BadChain, InTwoChains, Lost}
use Rattle.sound.specs.Files.{AreChains}
use Rattle.sound.specs.Counts.{counts_of}
use Rattle.sound.specs.Numbers.{found}
use Rattle.sound.specs.declared.Counts.{Counts}
use Rattle.sound.specs.declared.Finding.{Finding}
use Rattle.sound.specs.declared.Finding.TheVariants.{BadValue, BadEntry, WrongChain, SharedCluster, LostCluster}

-- none of them: the counts, by lists that are the files' chains
abbrev pub Counted : Kind → List ℕ → Result Counts Finding → Type 0
Counted k l v = (lists : ℕ → List ℕ) × AreChains k l lists × (v ≡ Ok (counts_of k l lists))

-- 7
abbrev pub FromLost : Kind → List ℕ → Result Counts Finding → Type 0
FromLost k l = OrElse ltb (Lost k l) (found LostCluster) (Counted k l)

-- 6
abbrev pub FromTwo : Kind → List ℕ → Result Counts Finding → Type 0
FromTwo k l = OrElse ltb (InTwoChains k l) (found SharedCluster) (FromLost k l)

-- 5
abbrev pub FromChains : Kind → List ℕ → Result Counts Finding → Type 0
FromChains k l = OrElse ltb (BadChain k l) (found WrongChain) (FromTwo k l)

-- 4
abbrev pub FromSlots : Kind → List ℕ → Result Counts Finding → Type 0
FromSlots k l = OrElse ltb (BadSlot k l) (found BadEntry) (FromChains k l)

-- 3
abbrev pub FromValues : Kind → List ℕ → Result Counts Finding → Type 0
FromValues k l = OrElse ltb (NoValue k l) (found BadValue) (FromSlots k l)
