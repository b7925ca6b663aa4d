-- What the visit of all files of a volume leaves, in the words of the answer as it is computed.
use Rattle.std.specs.Prelude.{ℕ, List, ◌≡◌, replicate, Result, Ok}
use Rattle.std.proofs.Common.{◌∙◌}
use Rattle.std.proofs.Math.Path.{subst}
use Rattle.chains.specs.Aids.Check.{chain_marks}
use Rattle.chains.specs.Aids.Marks.{marks, marks_of}
use Rattle.diskette.specs.Places.{cluster_bytes, last_cluster, root_entries, slot_at}
use Rattle.diskette.specs.declared.Kind.{Kind}
use Rattle.chaincheck.specs.Aids.Entries.{chains_of}
use Rattle.chaincheck.specs.Aids.Visits.{MarksIf, FilesVisited}
use Rattle.chaincheck.specs.declared.Chains.{Chains}
use Rattle.sound.specs.Aids.Judged.{marks_of_files}

module _ (k : Kind) (l m after : List ℕ) (r : Result Chains ℕ) (v : FilesVisited (last_cluster k) (cluster_bytes k) l (slot_at k) (root_entries k) m r after) (chains : Chains) (t : r ≡ Ok chains) where
  -- the marks, in a buffer that was zero
  pub files_visited_marks : m ≡ replicate 4080 0 → after ≡ marks_of_files k l
  unfolding marks_of_files chain_marks marks_of chains_of
  files_visited_marks e = subst (λ (c : Result Chains ℕ). MarksIf c after (marks m (chains_of (last_cluster k) (cluster_bytes k) l (slot_at k) (root_entries k)))) t v.marks_are ∙ rw e
