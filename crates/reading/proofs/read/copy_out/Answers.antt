-- The chain of a file of a sound volume has room for its size, and what is fetched along it is the file's.
use Rattle.calls.proofs.Laws.Ready.{on_usable}
use Rattle.calls.proofs.Laws.Files.{slot_within}
use Rattle.holding.proofs.Laws.Clusters.{base_fits, kind_area}
use Rattle.reading.proofs.Laws.Read.{copy_room, copied_is, copied_none}
use Rattle.std.proofs.Common.{rules}
use Rattle.reading.proofs.read.copy_out.Goals as goal

pub returns-then-n-eq0 : goal.returns-then-n-eq0
returns-then-n-eq0 c = search copied_none

pub first_data-base-requires : goal.first_data-base-requires
first_data-base-requires c = search on_usable

pub overflow_mul-base : goal.overflow_mul-base
overflow_mul-base c = search (rules, base_fits)

pub slot_at-requires-clause-usable : goal.slot_at-requires-clause-usable
slot_at-requires-clause-usable c = search on_usable

pub start_at-start-requires : goal.start_at-start-requires
start_at-start-requires c = search slot_within

pub cluster_bytes-requires : goal.cluster_bytes-requires
cluster_bytes-requires c = search on_usable

pub last_cluster-requires : goal.last_cluster-requires
last_cluster-requires c = search on_usable

pub fetch-requires-clause-area : goal.fetch-requires-clause-area
fetch-requires-clause-area c = search kind_area

pub fetch-requires-clause-n_in_bounds : goal.fetch-requires-clause-n_in_bounds
fetch-requires-clause-n_in_bounds c = search copy_room

pub returns : goal.returns
returns c = search copied_is
