-- The last cluster is one of the volume, or 0 where there is none.
use Rattle.calls.proofs.Laws.Ready.{on_usable}
use Rattle.holding.proofs.Laws.Clusters.{last_small, copies_reach}
use Rattle.putting.proofs.Laws.LongerCode.{added_is}
use Rattle.putting.proofs.longer.add_behind.Goals as goal

pub copy_two-requires : goal.copy_two-requires
copy_two-requires c = search on_usable

pub last_cluster-requires : goal.last_cluster-requires
last_cluster-requires c = search on_usable

pub add_clusters-requires-clause-last_bound : goal.add_clusters-requires-clause-last_bound
add_clusters-requires-clause-last_bound c = search last_small

pub add_clusters-requires-clause-reaches : goal.add_clusters-requires-clause-reaches
add_clusters-requires-clause-reaches c = search copies_reach

pub returns : goal.returns
returns c = search added_is
