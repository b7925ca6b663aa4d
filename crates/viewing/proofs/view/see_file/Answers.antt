-- The chain of a file of a sound volume has room for its size, so each of its bytes lies in the image.
use Rattle.calls.proofs.Laws.Ready.{on_usable}
use Rattle.calls.proofs.Laws.Files.{slot_within}
use Rattle.holding.proofs.Laws.Clusters.{base_fits, kind_area, cluster_wide}
use Rattle.viewing.proofs.Laws.View.{see_none, see_room, see_some}
use Rattle.std.proofs.Common.{rules}
use Rattle.viewing.proofs.view.see_file.Goals as goal

pub slot_at-a-requires-clause-usable : goal.slot_at-a-requires-clause-usable
slot_at-a-requires-clause-usable c = search on_usable

pub size_at-size-requires : goal.size_at-size-requires
size_at-size-requires c = search slot_within

pub returns-then-size-offset : goal.returns-then-size-offset
returns-then-size-offset c = search see_none

pub first_data-base-requires : goal.first_data-base-requires
first_data-base-requires c = search on_usable

pub overflow_mul-base : goal.overflow_mul-base
overflow_mul-base c = search (rules, base_fits)

pub cluster_bytes-cb-requires : goal.cluster_bytes-cb-requires
cluster_bytes-cb-requires c = search on_usable

pub start_at-start-requires : goal.start_at-start-requires
start_at-start-requires c = search slot_within

pub last_cluster-requires : goal.last_cluster-requires
last_cluster-requires c = search on_usable

pub place_of-at-requires-clause-area : goal.place_of-at-requires-clause-area
place_of-at-requires-clause-area c = search kind_area

pub place_of-at-requires-clause-pos_in_bounds : goal.place_of-at-requires-clause-pos_in_bounds
place_of-at-requires-clause-pos_in_bounds c = search see_room

pub bytes_from-requires-clause-cb_nonzero : goal.bytes_from-requires-clause-cb_nonzero
bytes_from-requires-clause-cb_nonzero c = search cluster_wide

pub returns : goal.returns
returns c = search see_some
