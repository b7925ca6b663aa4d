-- The answer put together, in the form of the code's needs: r is what a search answered.
use Rattle.std.specs.Prelude.{ℕ, ◌-◌, ◌*◌, List, ◌≡◌, replicate, Option, Some, None, Result, Ok, Err, MatchResult, IsErrAnd}
use Rattle.std.proofs.Math.Path.{refl, sym}
use Rattle.std.proofs.Common.{◌∙◌, arith}
use Rattle.chains.specs.Aids.Verdict.{or_else}
use Rattle.chains.specs.Aids.Check.{no_value, in_two, lost, check_lost, check_two, check_chains}
use Rattle.search.specs.Search.{lowest}
use Rattle.diskette.specs.Places.{cluster_bytes, last_cluster, root_entries, root_at, copy_two, slot_at, slot_from}
use Rattle.diskette.specs.declared.Kind.{Kind}
use Rattle.table.specs.Entries.{table_of}
use Rattle.tablecheck.specs.Aids.Copies.{differs_at}
use Rattle.tablecheck.specs.Aids.Values.{census_by, census_of}
use Rattle.tablecheck.specs.declared.Tally.{Tally}
use Rattle.slotcheck.specs.Aids.Slots.{bad_slot_at}
use Rattle.chaincheck.specs.Aids.Entries.{bad_chain_slot}
use Rattle.chaincheck.specs.Aids.Held.{plain_slot}
use Rattle.chaincheck.specs.Aids.Visits.{chains_by, chains_found, FilesVisited}
use Rattle.chaincheck.specs.declared.Chains.{Chains}
use Rattle.sound.specs.Files.{value_of}
use Rattle.sound.specs.Counts.{is_file, free_of, bad_of, reserved_of}
use Rattle.sound.specs.Aids.Judged.{marks_of_files, voice, sound_with, marks_judged, chains_judged, judged}
use Rattle.sound.proofs.Laws.Visited.{files_visited_marks}
use Rattle.sound.specs.Numbers.{found}
use Rattle.sound.specs.declared.Counts.{Counts}
use Rattle.sound.specs.declared.Finding.{Finding}
use Rattle.sound.specs.declared.Finding.TheVariants.{CopiesDiffer, BadValue, BadEntry, WrongChain, SharedCluster, LostCluster}

-- ---- one finding in front of the rest

found_says : (say : ℕ → Result Counts Finding) (o : Option ℕ) (rest : Result Counts Finding) (r : Option ℕ) (p : ℕ) → r ≡ o → r ≡ Some p → say p ≡ or_else say o rest
unfolding or_else
found_says say o rest r p e q = rw (← e, q)

nothing_says : (say : ℕ → Result Counts Finding) (o : Option ℕ) (rest : Result Counts Finding) (r : Option ℕ) → r ≡ o → r ≡ None → rest ≡ or_else say o rest
unfolding or_else
nothing_says say o rest r e q = rw (← e, q)

-- m says r's error as a finding, and no other
pub error_said : {T : Type 0} (say : ℕ → Finding) (r : Result T ℕ) (m : Result T Finding) → MatchResult r (λ x. m ≡ Ok x) (λ e. IsErrAnd m (λ d. d ≡ say e)) → (d : Finding) → m ≡ Err d → (e : ℕ) × (r ≡ Err e) × (d ≡ say e)
error_said say (Ok x) m h d q = absurd (grind arith)
error_said say (Err e) m h d q = (e, refl, grind arith)

-- ---- findings 6 and 7

module _ (last : ℕ) (f : ℕ → ℕ) (m : List ℕ) (fine : Result Counts Finding) (r : Option ℕ) (e : r ≡ lowest (in_two m) 2 (last - 1)) where
  pub marks_two : (c : ℕ) → r ≡ Some c → Err (SharedCluster c) ≡ marks_judged last f m fine
  unfolding marks_judged
  marks_two c q = found_says (found SharedCluster) _ _ r c e q

  module _ (q : r ≡ None) (s : Option ℕ) (g : s ≡ lowest (lost last f m) 2 (last - 1)) where
    pub marks_lost : (c : ℕ) → s ≡ Some c → Err (LostCluster c) ≡ marks_judged last f m fine
    unfolding marks_judged
    marks_lost c p = found_says (found LostCluster) _ fine s c g p ∙ nothing_says (found SharedCluster) _ _ r e q

    pub marks_fine : s ≡ None → fine ≡ marks_judged last f m fine
    unfolding marks_judged
    marks_fine p = nothing_says (found LostCluster) _ fine s g p ∙ nothing_says (found SharedCluster) _ _ r e q

-- ---- findings 5 to 7

chains_say : (o : Option ℕ) (files held : ℕ) (r : Result Chains ℕ) → r ≡ chains_by o files held → (rest : ℕ → ℕ → Result Counts Finding) → (elim r as (λ _. Result Counts Finding) [ Err s ↦ Err (WrongChain s) | Ok c ↦ rest c.files c.held ]) ≡ or_else (found WrongChain) o (rest files held)
unfolding or_else
chains_say None files held r e rest = rw e
chains_say (Some s) files held r e rest = rw e

module _ (k : Kind) (l : List ℕ) (free bad reserved : ℕ) (r : Result Chains ℕ) (e : r ≡ chains_found (last_cluster k) (cluster_bytes k) l (slot_at k) (root_entries k)) where
  said : (elim r as (λ _. Result Counts Finding) [ Err s ↦ Err (WrongChain s) | Ok c ↦ marks_judged (last_cluster k) (value_of k l) (marks_of_files k l) (sound_with c.files free c.held bad reserved) ]) ≡ chains_judged k l free bad reserved
  unfolding chains_found chains_judged plain_slot is_file
  said = chains_say _ _ _ r e (λ a b. marks_judged (last_cluster k) (value_of k l) (marks_of_files k l) (sound_with a free b bad reserved))

  chains_bad : (s : ℕ) → r ≡ Err s → Err (WrongChain s) ≡ chains_judged k l free bad reserved
  chains_bad s q = rw q at said

  chains_good : (c : Chains) (m : List ℕ) (v : Result Counts Finding) → r ≡ Ok c → m ≡ marks_of_files k l → v ≡ marks_judged (last_cluster k) (value_of k l) m (sound_with c.files free c.held bad reserved) → v ≡ chains_judged k l free bad reserved
  chains_good c m v q p g = (rw p at g) ∙ (rw q at said)

-- the kind's numbers as the code has them, each in a variable, and what the visit of all files promised
module _ (k : Kind) (l : List ℕ) (free bad reserved last root count cb : ℕ) (a : last ≡ last_cluster k) (b : root ≡ root_at k) (c : count ≡ root_entries k) (d : cb ≡ cluster_bytes k)
    (r : Result Chains ℕ) (after : List ℕ) (v : FilesVisited last cb l (slot_from root) count (replicate 4080 0) r after) where
  visited : FilesVisited (last_cluster k) (cluster_bytes k) l (slot_at k) (root_entries k) (replicate 4080 0) r after
  visited = rw (a, b, c, d) at v

  pub visited_bad : (s : ℕ) → r ≡ Err s → Err (WrongChain s) ≡ chains_judged k l free bad reserved
  visited_bad s q = chains_bad k l free bad reserved r visited.is s q

  pub visited_good : (chains : Chains) (w : Result Counts Finding) → r ≡ Ok chains → w ≡ marks_judged last (table_of last l) after (sound_with chains.files free chains.held bad reserved) → w ≡ chains_judged k l free bad reserved
  visited_good chains w q g =
      chains_good k l free bad reserved r visited.is chains after w q (files_visited_marks k l (replicate 4080 0) after r visited chains q refl) (rw a at g)

-- ---- all of them

census_says : (o : Option ℕ) (free bad reserved : ℕ) (r : Result Tally ℕ) → r ≡ census_by o free bad reserved → (rest : ℕ → ℕ → ℕ → Result Counts Finding) → (elim r as (λ _. Result Counts Finding) [ Err c ↦ Err (BadValue c) | Ok t ↦ rest t.free t.bad t.reserved ]) ≡ or_else (found BadValue) o (rest free bad reserved)
unfolding or_else
census_says None free bad reserved r e rest = rw e
census_says (Some c) free bad reserved r e rest = rw e

module _ (k : Kind) (l : List ℕ) where
  -- findings 5 to 7 as the theory of chains has them
  chains_as : chains_judged k l (free_of k l) (bad_of k l) (reserved_of k l) ≡ check_chains (last_cluster k) (value_of k l) (marks_of_files k l) (voice k l) (lowest (bad_chain_slot (last_cluster k) (cluster_bytes k) l (slot_at k)) 0 (root_entries k))
  unfolding chains_judged marks_judged check_chains check_two check_lost
  chains_as = refl

  from_slots : ℕ → ℕ → ℕ → Result Counts Finding
  from_slots free bad reserved = or_else (found BadEntry) (lowest (bad_slot_at l (slot_at k)) 0 (root_entries k)) (chains_judged k l free bad reserved)

  judged_as : judged k l ≡ or_else (found CopiesDiffer) (lowest (differs_at (copy_two k) l) 0 (512 * k.fat)) (or_else (found BadValue) (lowest (no_value (last_cluster k) (value_of k l)) 2 (last_cluster k - 1)) (from_slots (free_of k l) (bad_of k l) (reserved_of k l)))
  unfolding judged from_slots
  judged_as = rw chains_as

  module _ (second : ℕ) (x : second ≡ copy_two k) (r : Option ℕ) (e : r ≡ lowest (differs_at second l) 0 (512 * k.fat)) where
    tables_say : r ≡ lowest (differs_at (copy_two k) l) 0 (512 * k.fat)
    tables_say = rw x at e

    pub judged_tables : (j : ℕ) → r ≡ Some j → Err (CopiesDiffer j) ≡ judged k l
    judged_tables j q = found_says (found CopiesDiffer) _ _ r j tables_say q ∙ sym judged_as

    module _ (q : r ≡ None) (last : ℕ) (y : last ≡ last_cluster k) (s : Result Tally ℕ) (g : s ≡ census_of last l) where
      after_tables : (elim s as (λ _. Result Counts Finding) [ Err c ↦ Err (BadValue c) | Ok t ↦ from_slots t.free t.bad t.reserved ]) ≡ judged k l
      unfolding census_of
      after_tables = census_says _ _ _ _ s (rw y at g) from_slots ∙ nothing_says (found CopiesDiffer) _ _ r tables_say q ∙ sym judged_as

      pub judged_values : (c : ℕ) → s ≡ Err c → Err (BadValue c) ≡ judged k l
      judged_values c p = rw p at after_tables

      module _ (tally : Tally) (p : s ≡ Ok tally) (root count : ℕ) (w : root ≡ root_at k) (z : count ≡ root_entries k) (t : Option ℕ) (h : t ≡ lowest (bad_slot_at l (slot_from root)) 0 count) where
        after_values : from_slots tally.free tally.bad tally.reserved ≡ judged k l
        after_values = rw p at after_tables

        slots_say : t ≡ lowest (bad_slot_at l (slot_at k)) 0 (root_entries k)
        slots_say = rw (w, z) at h

        pub judged_slots : (n : ℕ) → t ≡ Some n → Err (BadEntry n) ≡ judged k l
        unfolding from_slots
        judged_slots n o = found_says (found BadEntry) _ _ t n slots_say o ∙ after_values

        pub judged_chains : (v : Result Counts Finding) → t ≡ None → v ≡ chains_judged k l tally.free tally.bad tally.reserved → v ≡ judged k l
        unfolding from_slots
        judged_chains v o u = u ∙ nothing_says (found BadEntry) _ _ t slots_say o ∙ after_values
