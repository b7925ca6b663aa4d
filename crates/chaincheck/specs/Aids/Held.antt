-- Which slots of a directory hold files, and the clusters of each, as the walk along its chain finds them.
use Rattle.std.specs.Prelude.{ℕ, Bool, List, length}
use Rattle.chains.specs.Aids.Check.{chain_of}
use Rattle.table.specs.Entries.{table_of}
use Rattle.directory.specs.Slots.{standing_of, is_plain}
use Rattle.chaincheck.specs.Aids.Entries.{holder_at}

-- slot s holds a plain file; way takes a slot to the byte at which its entry starts
unfoldable pub plain_slot : List ℕ → (ℕ → ℕ) → ℕ → Bool
plain_slot l way s = is_plain (standing_of l (way s))

-- the chain of the entry at byte a: none where there is no file
unfoldable pub chain_at : ℕ → ℕ → List ℕ → ℕ → List ℕ
chain_at last cb l a = chain_of last (table_of last l) (holder_at cb l a)

-- how many clusters it has, of slot s
unfoldable pub held_slot : ℕ → ℕ → List ℕ → (ℕ → ℕ) → ℕ → ℕ
held_slot last cb l way s = length (chain_at last cb l (way s))
