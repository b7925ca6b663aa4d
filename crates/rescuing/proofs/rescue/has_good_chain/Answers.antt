-- Without a start there is no cluster; else the chain is long enough and has an end, or not.
use Rattle.holding.proofs.Laws.Kinds.{usable, slot_inside, last_small, table_inside}
use Rattle.rescuing.proofs.Laws.Chain.{none_good, too_short, ends_good}
use Rattle.rescuing.proofs.rescue.has_good_chain.Goals as goal

pub slot_at-a-requires-clause-usable : goal.slot_at-a-requires-clause-usable
slot_at-a-requires-clause-usable c = search usable

pub size_at-size-requires : goal.size_at-size-requires
size_at-size-requires c = search slot_inside

pub start_at-requires : goal.start_at-requires
start_at-requires c = search slot_inside

pub returns-then-start_at-eq0 : goal.returns-then-start_at-eq0
returns-then-start_at-eq0 c = search none_good

pub extent_at-own-requires-clause-a_in_bounds : goal.extent_at-own-requires-clause-a_in_bounds
extent_at-own-requires-clause-a_in_bounds c = search slot_inside

pub needed_for-requires : goal.needed_for-requires
needed_for-requires c = search usable

pub returns-else-needed_for-own : goal.returns-else-needed_for-own
returns-else-needed_for-own c = search too_short

pub last_cluster-requires : goal.last_cluster-requires
last_cluster-requires c = search usable

pub value_of-requires-clause-last_bound : goal.value_of-requires-clause-last_bound
value_of-requires-clause-last_bound c = search last_small

pub value_of-requires-clause-last_in_bounds : goal.value_of-requires-clause-last_in_bounds
value_of-requires-clause-last_in_bounds c = search table_inside

pub returns-then-needed_for-own : goal.returns-then-needed_for-own
returns-then-needed_for-own c = search ends_good
