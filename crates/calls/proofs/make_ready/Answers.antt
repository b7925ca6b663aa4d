-- Each way out is one answer of the two that were asked for.
use Rattle.calls.proofs.Laws.Exits.{exits}
use Rattle.calls.proofs.Laws.Ready.{ready_no_kind, ready_unsound, ready_volume}
use Rattle.calls.proofs.make_ready.Goals as goal

pub returns-in_err-k : goal.returns-in_err-k
returns-in_err-k c = search (ready_no_kind, c.in_err-k.was, exits c.from_residual.ensures.1)

pub returns-in-Ok : goal.returns-in-Ok
returns-in-Ok c = search (ready_volume, c.in_ok-k.was)

pub returns-in-Err : goal.returns-in-Err
returns-in-Err c = search (ready_unsound, c.in_ok-k.was)
