-- A volume that is not ready is refused by the first two rows; else the rest is left to the call on the volume.
use Rattle.calls.proofs.Laws.Exits.{exits}
use Rattle.calls.proofs.Laws.Ready.{ready_on, ready_free, not_ready}
use Rattle.writing.proofs.Laws.Write.{write_refused}
use Rattle.writing.proofs.write.write.Goals as goal

pub write_on-requires-clause-on_volume : goal.write_on-requires-clause-on_volume
write_on-requires-clause-on_volume c = search (ready_on, c.in_ok-k.was)

pub write_on-requires-clause-free_value : goal.write_on-requires-clause-free_value
write_on-requires-clause-free_value c = search (ready_free, c.in_ok-k.was)

pub returns-in_err-k : goal.returns-in_err-k
returns-in_err-k c = write_refused (exits c.from_residual.ensures.1) (search (not_ready, c.in_err-k.was))
