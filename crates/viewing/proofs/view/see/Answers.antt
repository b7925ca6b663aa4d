-- A volume that is not ready is refused by the first two rows; else the rest is left to the look on the volume.
use Rattle.calls.proofs.Laws.Exits.{exits}
use Rattle.calls.proofs.Laws.Ready.{ready_on, not_ready}
use Rattle.viewing.proofs.Laws.View.{see_refused}
use Rattle.viewing.proofs.view.see.Goals as goal

pub see_on-requires : goal.see_on-requires
see_on-requires c = search (ready_on, c.in_ok-k.was)

pub returns-in_err-k : goal.returns-in_err-k
returns-in_err-k c = see_refused (exits c.from_residual.ensures.1) (search (not_ready, c.in_err-k.was))
