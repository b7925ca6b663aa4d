-- Finding 3 as the code searches for it: the lowest cluster without a value, or how many are free, bad and reserved.
use Rattle.std.specs.Prelude.{ℕ, ◌+◌, ◌-◌, ◌≤◌, Bool, ◌≡◌, List, Option, Some, None, Result, Ok, Err}
use Rattle.search.specs.Search.{lowest}
use Rattle.chains.specs.Values.{freeb, badb, reservedb, value_count}
use Rattle.chains.specs.Aids.Check.{no_value}
use Rattle.chains.specs.Aids.Values.{passes_at}
use Rattle.chains.specs.Sums.{tally}
use Rattle.table.specs.Entries.{table_of}
use Rattle.tablecheck.specs.declared.Tally.{Tally}

abbrev pub census_by : Option ℕ → ℕ → ℕ → ℕ → Result Tally ℕ
census_by None free bad reserved = Ok (record { free = free; bad = bad; reserved = reserved })
census_by (Some c) free bad reserved = Err c

unfoldable pub census_of : ℕ → List ℕ → Result Tally ℕ
census_of last l =
    let f = table_of last l in
    census_by (lowest (no_value last f) 2 (last - 1)) (value_count freeb last f) (value_count badb last f) (value_count reservedb last f)

-- ---- on the way

-- n clusters before c pass the test; with those from c on they are all that do
pub record Tallied (t : ℕ → Bool) (last : ℕ) (f : ℕ → ℕ) (n c : ℕ) : Type 0 where
  pub few : n ≤ c
  pub whole : n + tally (passes_at t f) (last + 1 - c) c ≡ value_count t last f

-- where the loop stands at cluster c: what it has counted, and that each cluster before has a value
pub record Met (last : ℕ) (l : List ℕ) (t : Tally) (c : ℕ) : Type 0 where
  pub from : 2 ≤ c
  pub free_are : Tallied freeb last (table_of last l) t.free c
  pub bad_are : Tallied badb last (table_of last l) t.bad c
  pub reserved_are : Tallied reservedb last (table_of last l) t.reserved c
  pub valued : lowest (no_value last (table_of last l)) c (last + 1 - c) ≡ lowest (no_value last (table_of last l)) 2 (last - 1)

-- what a count has come to, once the clusters before c are counted
abbrev pub CountedTo : ℕ → List ℕ → ℕ → Result Tally ℕ → Type 0
CountedTo last l c (Err d) = Err d ≡ census_of last l
CountedTo last l c (Ok t) = Met last l t c
