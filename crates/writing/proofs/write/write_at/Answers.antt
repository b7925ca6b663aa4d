-- What is accepted ends within the room.
use Rattle.calls.proofs.Laws.Ready.{on_usable}
use Rattle.writing.proofs.Laws.Write.{own_few, room_is, pointer_fits, answer_fits, write_none, write_some}
use Rattle.std.proofs.Common.{rules, refl}
use Rattle.writing.proofs.write.write_at.Goals as goal

pub room_for-requires-clause-usable : goal.room_for-requires-clause-usable
room_for-requires-clause-usable c = search on_usable

pub room_for-requires-clause-free_bound : goal.room_for-requires-clause-free_bound
room_for-requires-clause-free_bound c = search own_few

pub returns-then-n-eq0 : goal.returns-then-n-eq0
returns-then-n-eq0 c = search (write_none, room_is)

pub move_on-requires-clause-n_bound : goal.move_on-requires-clause-n_bound
move_on-requires-clause-n_bound c = search (pointer_fits, room_is)

pub overflow_cast-result : goal.overflow_cast-result
overflow_cast-result c = search (rules, answer_fits, room_is)

pub returns : goal.returns
returns c = write_some _ _ _ _ _ _ _ _ _
    c.pointer_at-pointer.ensures
    (room_is _ _ _ _ c.extent_at-own.ensures _ c.requires.free_value _ c.room_for.ensures)
    c.count_of-n.ensures
    c.if-n-eq0.false
    _
    _
    c.put_first.ensures
    c.move_on.ensures
    _
    refl
