-- The holders of chains as a family over all addresses, which is what the theory of chains takes.
use Rattle.std.specs.Prelude.{ℕ, cond, List, eqb}
use Rattle.chains.specs.Aids.Check.{chain_of}
use Rattle.chains.specs.Aids.Holders.{Holder, nobody}
use Rattle.chains.specs.Aids.Lists.{occ}
use Rattle.chains.specs.Aids.Rows.{rows}
use Rattle.diskette.specs.Places.{cluster_bytes, last_cluster, root_entries, slot_at}
use Rattle.diskette.specs.declared.Kind.{Kind}
use Rattle.chaincheck.specs.Aids.Entries.{holder_at, entries_of}
use Rattle.sound.specs.Files.{value_of}

-- the addresses of the root's entries
abbrev pub root_list : Kind → List ℕ
root_list k = entries_of (slot_at k) (root_entries k)

-- the same with their slots
abbrev pub root_rows : Kind → List (ℕ × ℕ)
root_rows k = rows (slot_at k) 0 (root_entries k)

-- the holders of the list alone, nobody elsewhere
unfoldable pub only_among : List ℕ → (ℕ → Holder) → ℕ → Holder
only_among is h a = cond (eqb (occ a is) 0) nobody (h a)

-- who holds a chain by an entry of the root at byte a
unfoldable pub root_holders : Kind → List ℕ → ℕ → Holder
root_holders k l = only_among (root_list k) (holder_at (cluster_bytes k) l)

-- the clusters of that chain
unfoldable pub root_chains : Kind → List ℕ → ℕ → List ℕ
root_chains k l a = chain_of (last_cluster k) (value_of k l) (root_holders k l a)
