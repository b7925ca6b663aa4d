-- What is left to be stored, from here, gives the whole.
use Rattle.std.proofs.Common.{◌+◌, ◌-◌, ◌≤◌, ◌≡◌}
use Rattle.table.specs.Entries.{table_of}
use Rattle.walks.specs.Aids.Walks.{LeadsTo, left_stored}
use Rattle.walks.proofs.chain.store_left.Given as goal

abbrev pub invariant-loop-rest : goal.invariant-loop-rest
invariant-loop-rest l = record {
  above : l.known + 1 ≤ l.rest;
  leads : LeadsTo l.last (table_of l.last l.img) l.c (l.rest - 1);
  stored : left_stored (table_of l.last l.img) l.left l.c (l.rest - 1) (l.rest - 1 - l.known) ≡ left_stored (table_of l.last l.img) l.initial.left l.start l.n (l.n - l.known);
}
