-- The number of clusters met is held against the size.
use Rattle.chaincheck.proofs.Laws.SlotTurns.{slot_no_file, chain_few, slot_clusters, slot_other, slot_endless}
use Rattle.chaincheck.proofs.files.visit_slot.Goals as goal

pub returns-then-not-plain_at : goal.returns-then-not-plain_at
returns-then-not-plain_at c = search slot_no_file

pub has_room-requires-clause-n_bound : goal.has_room-requires-clause-n_bound
has_room-requires-clause-n_bound c = search chain_few

pub returns-then-has_room : goal.returns-then-has_room
returns-then-has_room c = search slot_clusters

pub returns-else-has_room : goal.returns-else-has_room
returns-else-has_room c = search slot_other

pub returns-in_default : goal.returns-in_default
returns-in_default c = search slot_endless
