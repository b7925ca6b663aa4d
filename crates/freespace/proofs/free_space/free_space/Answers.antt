-- Each way out is one answer of ready; the count is the one that check answered.
use Rattle.calls.proofs.Laws.Exits.{exits}
use Rattle.calls.proofs.Laws.Ready.{ready_on, on_usable}
use Rattle.freespace.proofs.Laws.FreeSpace.{spaced, not_spaced}
use Rattle.freespace.proofs.free_space.free_space.Goals as goal

pub returns-in_err-k : goal.returns-in_err-k
returns-in_err-k c = search (not_spaced, c.in_err-k.was, exits c.from_residual.ensures.1)

pub space_with-requires : goal.space_with-requires
space_with-requires c = on_usable c.args.img.now _ (search (ready_on, c.in_ok-k.was))

pub returns : goal.returns
returns c = search (spaced, c.in_ok-k.was)
