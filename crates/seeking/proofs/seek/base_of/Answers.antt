-- One method a way out.
use Rattle.calls.proofs.Laws.Ready.{on_usable}
use Rattle.calls.proofs.Laws.Files.{slot_within}
use Rattle.seeking.proofs.Laws.Seek.{base_start, base_pointer, base_size}
use Rattle.seeking.proofs.seek.base_of.Goals as goal

pub slot_at-requires-clause-usable : goal.slot_at-requires-clause-usable
slot_at-requires-clause-usable c = search on_usable

pub size_at-requires : goal.size_at-requires
size_at-requires c = search slot_within

pub returns-in-Start : goal.returns-in-Start
returns-in-Start c = search base_start

pub returns-in-Pointer : goal.returns-in-Pointer
returns-in-Pointer c = search base_pointer

pub returns-in-Size : goal.returns-in-Size
returns-in-Size c = search base_size
