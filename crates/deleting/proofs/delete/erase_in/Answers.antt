-- Freeing keeps the length, so the slot still stands within the image.
use Rattle.calls.proofs.Laws.Ready.{on_usable}
use Rattle.holding.proofs.Laws.Chain.{file_below, file_at}
use Rattle.freeing.proofs.Laws.Freed.{freed_within}
use Rattle.std.proofs.Common.{rules}
use Rattle.deleting.proofs.delete.erase_in.Goals as goal

pub slot_at-a-requires-clause-usable : goal.slot_at-a-requires-clause-usable
slot_at-a-requires-clause-usable c = search on_usable

pub slot_at-a-requires-clause-slot_bound : goal.slot_at-a-requires-clause-slot_bound
slot_at-a-requires-clause-slot_bound c = search file_below

pub free_file-requires-clause-file_at : goal.free_file-requires-clause-file_at
free_file-requires-clause-file_at c = search file_at

pub put_first-requires : goal.put_first-requires
put_first-requires c = search (rules, freed_within)

pub returns : goal.returns
returns c = cc
