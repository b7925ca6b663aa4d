-- The zeros leave the chain as it is, so the bytes have their room still.
use Rattle.putting.proofs.Laws.Put.{room_still, put_is}
use Rattle.putting.proofs.put.put_along.Goals as goal

pub put_bytes-requires-clause-has_room : goal.put_bytes-requires-clause-has_room
put_bytes-requires-clause-has_room c = search room_still

pub returns : goal.returns
returns c = search put_is
