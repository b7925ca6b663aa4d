-- A volume that is not ready is refused by the first two rows; else the rest is left to the call on the volume.
use Rattle.calls.proofs.Laws.Exits.{exits}
use Rattle.calls.proofs.Laws.Ready.{ready_on, not_ready}
use Rattle.marking.proofs.Laws.Mode.{mode_refused}
use Rattle.marking.proofs.mode.mode.Goals as goal

pub mode_on-requires : goal.mode_on-requires
mode_on-requires c = search (ready_on, c.in_ok-k.was)

pub returns-in_err-k : goal.returns-in_err-k
returns-in_err-k c = mode_refused (exits c.from_residual.ensures.1) (search (not_ready, c.in_err-k.was))
