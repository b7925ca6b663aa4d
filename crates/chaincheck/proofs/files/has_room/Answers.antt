-- The product decides as the quotient does.
use Rattle.chaincheck.proofs.Laws.SlotTurns.{room_fits, room_is}
use Rattle.chaincheck.proofs.files.has_room.Goals as goal

pub overflow_mul-result : goal.overflow_mul-result
overflow_mul-result c = search room_fits

pub returns : goal.returns
returns c = search room_is
