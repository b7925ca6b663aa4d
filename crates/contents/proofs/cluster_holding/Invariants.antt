-- The links that are left, from here on, lead to the same cluster.
use Rattle.std.proofs.Common.{◌≡◌, ◌-◌, ◌/◌}
use Rattle.chains.specs.Aids.Steps.{followed}
use Rattle.table.specs.Entries.{table_of}
use Rattle.contents.proofs.cluster_holding.Given as goal

abbrev pub invariant-loop : goal.invariant-loop
invariant-loop l = followed (table_of l.last l.img) (l.end - l.counter) l.cluster ≡ followed (table_of l.last l.img) (l.pos / l.cb) l.start
