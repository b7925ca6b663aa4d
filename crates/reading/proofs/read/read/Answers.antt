-- A volume that is not ready is refused by the first two rows; else the rest is left to the call on the volume.
use Rattle.calls.proofs.Laws.Exits.{exits}
use Rattle.calls.proofs.Laws.Ready.{ready_on, not_ready}
use Rattle.reading.proofs.Laws.Read.{read_refused}
use Rattle.reading.proofs.read.read.Goals as goal

pub read_on-requires : goal.read_on-requires
read_on-requires c = search (ready_on, c.in_ok-k.was)

pub returns-in_err-k : goal.returns-in_err-k
returns-in_err-k c = read_refused (exits c.from_residual.ensures.1) (search (not_ready, c.in_err-k.was))
