-- A cluster's value as it is read.
use Rattle.std.specs.Prelude.{ℕ, ◌≤◌, List, ◌≡◌}
use Rattle.std.proofs.Common.{sym, ◌∙◌}
use Rattle.image.specs.Bytes.{Bytes}
use Rattle.table.specs.Entries.{entry_of}
use Rattle.table.proofs.Laws.OneCopy.{entry_small}
use Rattle.table.proofs.Laws.View.{table_inside}
use Rattle.walks.specs.Aids.Walks.{ValueIs}

pub value_is : (last : ℕ) (l : List ℕ) (c v : ℕ) → Bytes l → 2 ≤ c → c ≤ last → v ≡ entry_of l c → ValueIs last l c v
value_is last l c v bytes from to r = record { is = r ∙ sym (table_inside last l c from to); small = rw r (entry_small 512 l c bytes) }
