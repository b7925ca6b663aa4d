-- What is left of the way comes to the cluster as the whole does.
use Rattle.std.proofs.Common.{◌≡◌, ◌-◌}
use Rattle.table.specs.Entries.{table_of}
use Rattle.member.specs.Clusters.{comes_to}
use Rattle.member.proofs.clusters.comes_to.Given as goal

abbrev pub invariant-loop : goal.invariant-loop
invariant-loop l = comes_to l.last (table_of l.last l.img) l.c (l.n - l.counter) l.v ≡ comes_to l.last (table_of l.last l.img) l.c l.n l.start
