-- What the loops of check find on their way, two things in one pass.
use Rattle.std.specs.Prelude.{ℕ, ◌+◌, ◌*◌, ◌-◌, ◌≤◌, Bool, true, false, List, ◌≡◌, length, Option, Some, None, Result, Ok, Err}
use Rattle.chains.specs.Aids.Findings.{holders_of}
use Rattle.chains.specs.Aids.Lists.{joined}
use Rattle.chains.specs.Aids.Marks.{marks}
use Rattle.chains.specs.Aids.Rows.{rows}
use Rattle.chains.specs.Sums.{sum, tally}
use Rattle.chains.specs.Aids.Check.{ownsb}
use Rattle.search.specs.Search.{lowest}
use Rattle.table.specs.Entries.{table_of}
use Rattle.directory.specs.Slots.{standing_of, is_plain}
use Rattle.walks.specs.Aids.Walks.{Tails}
use Rattle.chaincheck.specs.Aids.Held.{plain_slot, chain_at, held_slot}
use Rattle.chaincheck.specs.Aids.Entries.{holder_at, bad_chain_slot, chains_of}
use Rattle.chaincheck.specs.declared.BadChain.{BadChain}
use Rattle.chaincheck.specs.declared.Chains.{Chains}

-- ---- the entry at byte a: no file, one with a bad chain, or the number of its clusters

abbrev pub slot_by : Bool → Bool → ℕ → Result (Option ℕ) BadChain
slot_by false owns n = Ok None
slot_by true false n = Err (record {})
slot_by true true n = Ok (Some n)

unfoldable pub slot_found : ℕ → ℕ → List ℕ → ℕ → Result (Option ℕ) BadChain
slot_found last cb l a =
    slot_by (is_plain (standing_of l a)) (ownsb last (table_of last l) (holder_at cb l a)) (length (chain_at last cb l a))

-- the marks after, and what the buffers hold then; of a bad chain nothing is said
pub record SlotMarked (last cb : ℕ) (l : List ℕ) (a : ℕ) (m after t : List ℕ) : Type 0 where
  pub marks_are : after ≡ marks m (chain_at last cb l a)
  pub tails : Tails last (table_of last l) after t

abbrev pub MarkedUnlessBad : ℕ → ℕ → List ℕ → ℕ → List ℕ → Result (Option ℕ) BadChain → List ℕ → List ℕ → Type 0
MarkedUnlessBad last cb l a m (Ok n) after t = SlotMarked last cb l a m after t
MarkedUnlessBad last cb l a m (Err e) after t = Unit

-- what the code promises of one slot: its answer r, and unless the chain is bad the buffers after
pub record SlotVisited (last cb : ℕ) (l : List ℕ) (a : ℕ) (m : List ℕ) (r : Result (Option ℕ) BadChain) (after t : List ℕ) : Type 0 where
  pub is : r ≡ slot_found last cb l a
  pub marked : MarkedUnlessBad last cb l a m r after t

-- ---- all files of a directory: the lowest with a bad chain, or how many files there are and what they hold

abbrev pub chains_by : Option ℕ → ℕ → ℕ → Result Chains ℕ
chains_by None files held = Ok (record { files = files; held = held })
chains_by (Some s) files held = Err s

unfoldable pub chains_found : ℕ → ℕ → List ℕ → (ℕ → ℕ) → ℕ → Result Chains ℕ
chains_found last cb l way count =
    chains_by (lowest (bad_chain_slot last cb l way) 0 count) (tally (plain_slot l way) count 0) (sum count (held_slot last cb l way))

abbrev pub MarksIf : Result Chains ℕ → List ℕ → List ℕ → Type 0
MarksIf (Ok chains) after all = after ≡ all
MarksIf (Err s) after all = Unit

-- where the loop over the slots stands: those before s have files and held, no bad chain, and the marks m; t has its tails
pub record Underway (last cb : ℕ) (l : List ℕ) (way : ℕ → ℕ) (count : ℕ) (m₀ : List ℕ) (s files held : ℕ) (m t : List ℕ) : Type 0 where
  pub within : s ≤ count
  pub long : length m ≡ length m₀
  pub few : files ≤ s
  pub bounded : held ≤ 4096 * s
  pub none_bad : lowest (bad_chain_slot last cb l way) s (count - s) ≡ lowest (bad_chain_slot last cb l way) 0 count
  pub files_are : files + tally (plain_slot l way) (count - s) s ≡ tally (plain_slot l way) count 0
  pub held_is : held ≡ sum s (held_slot last cb l way)
  pub marks_are : marks m (joined (chain_at last cb l) (holders_of (rows way s (count - s)))) ≡ marks m₀ (chains_of last cb l way count)
  pub tails : Tails last (table_of last l) m t

-- what the code's loop promises: its answer r, and where no chain is bad the marks of all chains
pub record FilesVisited (last cb : ℕ) (l : List ℕ) (way : ℕ → ℕ) (count : ℕ) (m : List ℕ) (r : Result Chains ℕ) (after : List ℕ) : Type 0 where
  pub is : r ≡ chains_found last cb l way count
  pub marks_are : MarksIf r after (marks m (chains_of last cb l way count))
