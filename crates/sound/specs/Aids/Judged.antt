-- The answer as the code computes it, by searches, walks and marks. That it is what Answer says is proved in proofs/Laws.
use Rattle.std.specs.Prelude.{ℕ, ◌-◌, ◌*◌, Bool, true, false, List, Option, Some, None, Result, Ok, Err}
use Rattle.chains.specs.Aids.Check.{chain_marks, in_two, lost, no_value, check_chains}
use Rattle.chains.specs.Aids.Findings.{Voice}
use Rattle.chains.specs.Aids.Verdict.{or_else}
use Rattle.search.specs.Search.{lowest}
use Rattle.diskette.specs.Places.{last_cluster, cluster_bytes, slot_at, root_entries, copy_two}
use Rattle.diskette.specs.declared.Kind.{Kind}
use Rattle.tablecheck.specs.Aids.Copies.{differs_at}
use Rattle.slotcheck.specs.Aids.Slots.{bad_slot_at}
use Rattle.chains.specs.Sums.{sum}
use Rattle.chaincheck.specs.Aids.Entries.{holder_at, entries_of, bad_chain_slot}
use Rattle.chaincheck.specs.Aids.Held.{held_slot}
use Rattle.sound.specs.Files.{value_of}
use Rattle.sound.specs.Counts.{file_count, free_of, bad_of, reserved_of}
use Rattle.sound.specs.Numbers.{found}
use Rattle.sound.specs.declared.Counts.{Counts}
use Rattle.sound.specs.declared.Finding.{Finding}
use Rattle.sound.specs.declared.Finding.TheVariants.{OfNoKind, CopiesDiffer, BadValue, BadEntry, WrongChain, SharedCluster, LostCluster}

-- the marks of all chains of the root, in a buffer that has room for any volume's clusters
unfoldable pub marks_of_files : Kind → List ℕ → List ℕ
marks_of_files k l = chain_marks 4080 (last_cluster k) (value_of k l) (holder_at (cluster_bytes k) l) (entries_of (slot_at k) (root_entries k))

-- the counts put together
abbrev pub sound_with : ℕ → ℕ → ℕ → ℕ → ℕ → Result Counts Finding
sound_with files free held bad reserved = Ok (record { files = files; free = free; held = held; bad = bad; reserved = reserved })

-- held, by the walks
abbrev pub held_found : Kind → List ℕ → ℕ
held_found k l = sum (root_entries k) (held_slot (last_cluster k) (cluster_bytes k) l (slot_at k))

-- how the answer is said
abbrev pub voice : Kind → List ℕ → Voice ℕ (Result Counts Finding)
voice k l = record {
  bad_chain = found WrongChain;
  in_two = found SharedCluster;
  lost = found LostCluster;
  fine = sound_with (file_count k l) (free_of k l) (held_found k l) (bad_of k l) (reserved_of k l);
}

-- findings 6 and 7 by the marks m, as the code goes
unfoldable pub marks_judged : ℕ → (ℕ → ℕ) → List ℕ → Result Counts Finding → Result Counts Finding
marks_judged last f m fine =
    or_else (found SharedCluster) (lowest (in_two m) 2 (last - 1))
    (or_else (found LostCluster) (lowest (lost last f m) 2 (last - 1)) fine)

-- findings 5 to 7, as the code goes
unfoldable pub chains_judged : Kind → List ℕ → ℕ → ℕ → ℕ → Result Counts Finding
chains_judged k l free bad reserved =
    or_else (found WrongChain) (lowest (bad_chain_slot (last_cluster k) (cluster_bytes k) l (slot_at k)) 0 (root_entries k))
    (marks_judged (last_cluster k) (value_of k l) (marks_of_files k l) (sound_with (file_count k l) free (held_found k l) bad reserved))

-- all findings but the first
unfoldable pub judged : Kind → List ℕ → Result Counts Finding
judged k l =
    or_else (found CopiesDiffer) (lowest (differs_at (copy_two k) l) 0 (512 * k.fat))
    (or_else (found BadValue) (lowest (no_value (last_cluster k) (value_of k l)) 2 (last_cluster k - 1))
    (or_else (found BadEntry) (lowest (bad_slot_at l (slot_at k)) 0 (root_entries k))
    (check_chains (last_cluster k) (value_of k l) (marks_of_files k l) (voice k l)
    (lowest (bad_chain_slot (last_cluster k) (cluster_bytes k) l (slot_at k)) 0 (root_entries k)))))

abbrev pub judged_by : Option Kind → List ℕ → Result Counts Finding
judged_by (Some k) l = judged k l
judged_by None l = Err OfNoKind

-- the verdict is sound
abbrev pub is_sound_verdict : Result Counts Finding → Bool
is_sound_verdict (Ok counts) = true
is_sound_verdict (Err finding) = false
