-- The clusters still to come, behind those that were met, are the whole chain.
use Rattle.std.proofs.Common.{◌-◌, ◌+◌, ◌≡◌}
use Rattle.chains.specs.Chain.{clusters_from}
use Rattle.table.specs.Entries.{table_of}
use Rattle.links.specs.Aids.Extent.{extent_of, extent_from}
use Rattle.links.proofs.extent_of.Given as goal

abbrev pub invariant-loop-clusters : goal.invariant-loop-clusters
invariant-loop-clusters l = (l.clusters ≡ l.extent.clusters + 1)
    × (extent_from l.extent.clusters l.extent.end (clusters_from l.last (table_of l.last l.img) (l.last - l.clusters) l.cluster) ≡ extent_of (clusters_from l.last (table_of l.last l.img) (l.last - 1) l.start))
