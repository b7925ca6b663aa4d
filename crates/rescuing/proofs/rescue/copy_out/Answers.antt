-- A chain that is as finding 5 asks has room for the size, and what is fetched along it is the file's.
use Rattle.holding.proofs.Laws.Kinds.{usable, slot_inside, area_inside, base_fits}
use Rattle.rescuing.proofs.Laws.Chain.{copy_room, copied_is}
use Rattle.std.proofs.Common.{rules}
use Rattle.rescuing.proofs.rescue.copy_out.Goals as goal

pub first_data-base-requires : goal.first_data-base-requires
first_data-base-requires c = search usable

pub overflow_mul-base : goal.overflow_mul-base
overflow_mul-base c = search (rules, base_fits)

pub slot_at-requires-clause-usable : goal.slot_at-requires-clause-usable
slot_at-requires-clause-usable c = search usable

pub start_at-start-requires : goal.start_at-start-requires
start_at-start-requires c = search slot_inside

pub cluster_bytes-requires : goal.cluster_bytes-requires
cluster_bytes-requires c = search usable

pub last_cluster-requires : goal.last_cluster-requires
last_cluster-requires c = search usable

pub fetch-requires-clause-area : goal.fetch-requires-clause-area
fetch-requires-clause-area c = search area_inside

pub fetch-requires-clause-n_in_bounds : goal.fetch-requires-clause-n_in_bounds
fetch-requires-clause-n_in_bounds c = search copy_room

pub returns : goal.returns
returns c = search copied_is
