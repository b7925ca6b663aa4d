-- Clusters as the map shows them: what the value of one means, and which files' chains come to it. For any bytes, so that a
-- broken volume has its map too.
use Rattle.std.specs.Prelude.{ℕ, zero, suc, ◌+◌, ◌-◌, Bool, false, cond, ◌&&◌, ◌||◌, List, eqb, Option, Some, None}
use Rattle.chains.specs.Values.{linkb}
use Rattle.search.specs.Search.{lowest}
use Rattle.diskette.specs.Places.{clusters, last_cluster, root_entries, slot_at}
use Rattle.diskette.specs.declared.Kind.{Kind}
use Rattle.values.specs.Values.{meaning_of}
use Rattle.values.specs.declared.Meaning.{Meaning}
use Rattle.values.specs.declared.Meaning.TheVariants.{Free, Next, Bad, Reserved, End, NoneOfThese}
use Rattle.table.specs.Entries.{table_of}
use Rattle.fields.specs.Fields.{start_of}
use Rattle.directory.specs.Slots.{standing_of, is_plain}
use Rattle.calls.specs.Numbers.{of_no_kind}
use Rattle.member.specs.Answers.{refusal_answer}

-- ---- what the value of a cluster means

-- 1: free, 2: bad, 3: reserved, 4: none of the values, 5: a link, 6: an end
unfoldable pub meaning_told : Meaning → ℕ
meaning_told Free = 1
meaning_told Bad = 2
meaning_told Reserved = 3
meaning_told NoneOfThese = 4
meaning_told (Next n) = 5
meaning_told End = 6

-- 0: the kind has no such cluster; "40: image not of a kind"
unfoldable pub cluster_told : Option Kind → List ℕ → ℕ → ℕ
cluster_told (Some k) img c = cond (linkb (last_cluster k) c) (meaning_told (meaning_of (last_cluster k) (table_of (last_cluster k) img c))) 0
cluster_told None img c = refusal_answer of_no_kind

-- ---- which files' chains come to it

-- From the value v on, each cluster naming the next, cluster c is one of the first n. The way ends where a value is no
-- cluster's number: at the chain's end, or where the chain is broken.
unfoldable pub comes_to : ℕ → (ℕ → ℕ) → ℕ → ℕ → ℕ → Bool
comes_to last f c zero v = false
comes_to last f c (suc n) v = linkb last v && (eqb v c || comes_to last f c n (f v))

-- the entry at byte a is a plain file whose chain, as far as it goes, comes to cluster c. A volume has n clusters.
unfoldable pub holds_at : ℕ → ℕ → List ℕ → ℕ → ℕ → Bool
holds_at last n img c a = is_plain (standing_of img a) && comes_to last (table_of last img) c n (start_of img a)

-- the same of slot s; way takes a slot to the byte at which its entry starts
abbrev pub slot_holds : ℕ → ℕ → List ℕ → (ℕ → ℕ) → ℕ → ℕ → Bool
slot_holds last n img way c s = holds_at last n img c (way s)

-- a slot, and one more; 0: none
unfoldable pub found_told : Option ℕ → ℕ
found_told (Some s) = s + 1
found_told None = 0

-- the lowest slot from s on that holds cluster c; "40: image not of a kind"
unfoldable pub holder_told : Option Kind → List ℕ → ℕ → ℕ → ℕ
holder_told (Some k) img c s = found_told (lowest (slot_holds (last_cluster k) (clusters k) img (slot_at k) c) s (root_entries k - s))
holder_told None img c s = refusal_answer of_no_kind
