-- Sound means that none of the seven holds, stated without any walk: some list of clusters for each file meets them.
use Rattle.std.specs.Prelude.{ℕ, List, ◌≡◌}
use Rattle.chains.specs.Lists.{◌∈◌}
use Rattle.chains.specs.Values.{Link, Used}
use Rattle.search.specs.Search.{Nowhere}
use Rattle.diskette.specs.Places.{last_cluster}
use Rattle.diskette.specs.declared.Kind.{Kind}
use Rattle.sound.specs.Files.{value_of, IsFile, AreChains}
use Rattle.sound.specs.Findings.{TablesDiffer, NoValue, BadSlot, BadChain, InTwoChains, Lost}

-- lists s is the list of clusters of the file in slot s
pub record SoundBy (k : Kind) (l : List ℕ) (lists : ℕ → List ℕ) : Type 0 where
  pub tables : Nowhere (TablesDiffer k l)
  pub values : Nowhere (NoValue k l)
  pub slots : Nowhere (BadSlot k l)
  pub chains : AreChains k l lists
  pub apart : (s t c : ℕ) → IsFile k l s → IsFile k l t → c ∈ lists s → c ∈ lists t → s ≡ t
  pub covered : (c : ℕ) → Link (last_cluster k) c → Used (last_cluster k) (value_of k l c) → (s : ℕ) × IsFile k l s × (c ∈ lists s)

abbrev pub Sound : Kind → List ℕ → Type 0
Sound k l = (lists : ℕ → List ℕ) × SoundBy k l lists

-- none of the findings 2 to 7 holds anywhere
pub record NoFinding (k : Kind) (l : List ℕ) : Type 0 where
  pub tables : Nowhere (TablesDiffer k l)
  pub values : Nowhere (NoValue k l)
  pub slots : Nowhere (BadSlot k l)
  pub chains : Nowhere (BadChain k l)
  pub two : Nowhere (InTwoChains k l)
  pub lost : Nowhere (Lost k l)
