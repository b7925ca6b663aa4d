-- A slot of a ready volume stands within its image.
use Rattle.std.proofs.Common.{arith}
use Rattle.calls.proofs.Laws.Ready.{on_usable}
use Rattle.calls.proofs.Laws.Files.{slot_within, read_only_is}
use Rattle.calls.proofs.files.is_read_only.Goals as goal

pub slot_at-requires-clause-usable : goal.slot_at-requires-clause-usable
slot_at-requires-clause-usable c = search on_usable

pub slot_at-requires-clause-slot_bound : goal.slot_at-requires-clause-slot_bound
slot_at-requires-clause-slot_bound c = omega arith

pub attr_at-requires : goal.attr_at-requires
attr_at-requires c = search slot_within

pub returns : goal.returns
returns c = search read_only_is
