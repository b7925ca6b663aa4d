-- A slot of a ready volume stands within its image.
use Rattle.std.proofs.Common.{arith}
use Rattle.calls.proofs.Laws.Ready.{on_usable}
use Rattle.calls.proofs.Laws.Files.{slot_within}
use Rattle.renaming.proofs.rename.put_name_in.Goals as goal

pub slot_at-requires-clause-usable : goal.slot_at-requires-clause-usable
slot_at-requires-clause-usable c = search on_usable

pub slot_at-requires-clause-slot_bound : goal.slot_at-requires-clause-slot_bound
slot_at-requires-clause-slot_bound c = omega arith

pub put_name-requires : goal.put_name-requires
put_name-requires c = search slot_within

pub returns : goal.returns
returns c = cc
