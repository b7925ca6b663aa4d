-- The kind says how far the table reaches.
use Rattle.holding.proofs.Laws.Kinds.{usable, last_small, table_inside}
use Rattle.holding.proofs.Laws.Extent.{extent_is}
use Rattle.holding.proofs.extent_at.Goals as goal

pub last_cluster-requires : goal.last_cluster-requires
last_cluster-requires c = search usable

pub extent_of-requires-clause-last_bound : goal.extent_of-requires-clause-last_bound
extent_of-requires-clause-last_bound c = search last_small

pub extent_of-requires-clause-last_in_bounds : goal.extent_of-requires-clause-last_in_bounds
extent_of-requires-clause-last_in_bounds c = search table_inside

pub returns : goal.returns
returns c = search extent_is
