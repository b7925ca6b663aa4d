-- The counts that check answers of a sound volume: files, free, held, bad, reserved.
use Rattle.std.specs.Prelude.{ℕ, Bool, cond, List, length}
use Rattle.chains.specs.Sums.{sum, tally}
use Rattle.chains.specs.Values.{freeb, badb, reservedb, value_count}
use Rattle.diskette.specs.Places.{last_cluster, root_entries, slot_at}
use Rattle.diskette.specs.declared.Kind.{Kind}
use Rattle.directory.specs.Slots.{standing_of, is_plain}
use Rattle.sound.specs.Files.{value_of}
use Rattle.sound.specs.declared.Counts.{Counts}

-- slot s holds a plain file
unfoldable pub is_file : Kind → List ℕ → ℕ → Bool
is_file k l s = is_plain (standing_of l (slot_at k s))

-- how many plain files there are
abbrev pub file_count : Kind → List ℕ → ℕ
file_count k l = tally (is_file k l) (root_entries k) 0

-- of how many clusters of a volume the value passes a test
abbrev pub clusters_with : (ℕ → Bool) → Kind → List ℕ → ℕ
clusters_with t k l = value_count t (last_cluster k) (value_of k l)

-- free, bad and reserved "are numbers of table values"
abbrev pub free_of : Kind → List ℕ → ℕ
free_of k l = clusters_with freeb k l

abbrev pub bad_of : Kind → List ℕ → ℕ
bad_of k l = clusters_with badb k l

abbrev pub reserved_of : Kind → List ℕ → ℕ
reserved_of k l = clusters_with reservedb k l

-- the length of the chain of the file in slot s, by its list of clusters; nothing where there is none
unfoldable pub held_by : Kind → List ℕ → (ℕ → List ℕ) → ℕ → ℕ
held_by k l lists s = cond (is_file k l s) (length (lists s)) 0

-- held is "the sum of chain lengths, each defined by its list of clusters"
abbrev pub held_of : Kind → List ℕ → (ℕ → List ℕ) → ℕ
held_of k l lists = sum (root_entries k) (held_by k l lists)

-- "the counts files, free, held", then `bad` and `reserved`; lists are the files' chains
abbrev pub counts_of : Kind → List ℕ → (ℕ → List ℕ) → Counts
counts_of k l lists =
    record { files = file_count k l; free = free_of k l; held = held_of k l lists; bad = bad_of k l; reserved = reserved_of k l }
