-- A chain has no more clusters than there are.
use Rattle.calls.proofs.Laws.Ready.{on_usable}
use Rattle.holding.proofs.Laws.Clusters.{copies_reach, last_small}
use Rattle.freeing.proofs.Laws.Freed.{freed_is}
use Rattle.std.proofs.Common.{rules}
use Rattle.freeing.proofs.freed.free_file.Goals as goal

pub copy_two-requires : goal.copy_two-requires
copy_two-requires c = search on_usable

pub last_cluster-requires : goal.last_cluster-requires
last_cluster-requires c = search on_usable

pub clusters-requires : goal.clusters-requires
clusters-requires c = search on_usable

pub free_chain-requires-clause-last_bound : goal.free_chain-requires-clause-last_bound
free_chain-requires-clause-last_bound c = search last_small

pub free_chain-requires-clause-reaches : goal.free_chain-requires-clause-reaches
free_chain-requires-clause-reaches c = search copies_reach

pub returns : goal.returns
returns c = freed_is _ _ (search rules) _ (search rules) (search rules) _ _ _ _
    c.start_at-start.ensures
    c.clusters.ensures
    c.copy_two.ensures
    c.last_cluster.ensures
    _
    c.free_chain.ensures
