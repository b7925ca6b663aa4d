-- The longer chain holds every byte up to the new size.
use Rattle.calls.proofs.Laws.Ready.{on_usable}
use Rattle.putting.proofs.Laws.Put.{count_fits, reach_fits, written_is}
use Rattle.std.proofs.Common.{rules}
use Rattle.putting.proofs.put.put_in_file.Goals as goal

pub overflow_cast-bytes : goal.overflow_cast-bytes
overflow_cast-bytes c = search (rules, count_fits)

pub overflow_add-pointer : goal.overflow_add-pointer
overflow_add-pointer c = search (rules, reach_fits)

pub put_along-requires-clause-usable : goal.put_along-requires-clause-usable
put_along-requires-clause-usable c = search on_usable

pub returns : goal.returns
returns c = search written_is
