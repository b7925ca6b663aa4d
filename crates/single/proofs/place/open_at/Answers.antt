-- The place found goes with an answer that is well, and none with a refusal.
use Rattle.calls.proofs.Laws.Exits.{exits}
use Rattle.single.proofs.Laws.OpenAt.{opened_well, opened_refused}
use Rattle.single.proofs.place.open_at.Goals as goal

pub returns-in_err-done : goal.returns-in_err-done
returns-in_err-done c = search (opened_refused, exits c.from_residual.ensures.1, c.in_err-done.was)

pub returns : goal.returns
returns c = search (opened_well, c.in_ok-done.was)
