-- The entries of a directory as holders of chains, which is what the theory of chains takes.
use Rattle.std.specs.Prelude.{ℕ, Bool, not, List}
use Rattle.chains.specs.Aids.Holders.{Holder, nobody, file_holder}
use Rattle.chains.specs.Aids.Findings.{holders_of}
use Rattle.chains.specs.Aids.Lists.{joined}
use Rattle.chains.specs.Aids.Check.{ownsb, chain_of}
use Rattle.chains.specs.Aids.Rows.{rows}
use Rattle.table.specs.Entries.{table_of}
use Rattle.fields.specs.Fields.{start_of, size_of}
use Rattle.directory.specs.Slots.{standing_of}
use Rattle.directory.specs.declared.Standing.{Standing}
use Rattle.directory.specs.declared.Standing.TheVariants.{NeverUsed, Erased, Label, Plain}

-- who holds the chain of the entry at byte a: the plain file there, or nobody
abbrev pub holder_by : ℕ → ℕ → ℕ → Standing → Holder
holder_by cb start size NeverUsed = nobody
holder_by cb start size Erased = nobody
holder_by cb start size Label = nobody
holder_by cb start size Plain = file_holder cb start size

abbrev pub holder_at : ℕ → List ℕ → ℕ → Holder
holder_at cb l a = holder_by cb (start_of l a) (size_of l a) (standing_of l a)

-- finding 5, at slot s of a directory; way takes a slot to the byte at which its entry starts
unfoldable pub bad_chain_slot : ℕ → ℕ → List ℕ → (ℕ → ℕ) → ℕ → Bool
bad_chain_slot last cb l way s = not (ownsb last (table_of last l) (holder_at cb l (way s)))

-- the addresses of the entries in count slots
abbrev pub entries_of : (ℕ → ℕ) → ℕ → List ℕ
entries_of way count = holders_of (rows way 0 count)

-- the chains of all of them, one behind the other
unfoldable pub chains_of : ℕ → ℕ → List ℕ → (ℕ → ℕ) → ℕ → List ℕ
chains_of last cb l way count = joined (λ a. chain_of last (table_of last l) (holder_at cb l a)) (entries_of way count)
