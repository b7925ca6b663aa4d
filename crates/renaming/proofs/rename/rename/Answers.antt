-- A volume that is not ready is refused by the first two rows; else the rest is left to the call on the volume.
use Rattle.calls.proofs.Laws.Exits.{exits}
use Rattle.calls.proofs.Laws.Ready.{ready_on, not_ready}
use Rattle.renaming.proofs.Laws.Rename.{rename_refused}
use Rattle.renaming.proofs.rename.rename.Goals as goal

pub rename_on-requires : goal.rename_on-requires
rename_on-requires c = search (ready_on, c.in_ok-k.was)

pub returns-in_err-k : goal.returns-in_err-k
returns-in_err-k c = rename_refused (exits c.from_residual.ensures.1) (search (not_ready, c.in_err-k.was))
