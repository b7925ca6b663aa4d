-- A chain given back, as code does it.
use Rattle.std.specs.Prelude.{ℕ, zero, suc, cond, List}
use Rattle.chains.specs.Values.{linkb}
use Rattle.table.specs.Entries.{set_both, entry_of}

-- up to n clusters from c on, the next one read before the entry is cleared; a number that is no cluster ends it
unfoldable pub freed_from : ℕ → ℕ → List ℕ → ℕ → ℕ → List ℕ
freed_from second last l zero c = l
freed_from second last l (suc n) c = cond (linkb last c) (freed_from second last (set_both second l c 0) n (entry_of l c)) l
