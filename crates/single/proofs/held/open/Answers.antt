-- The record that the table of one record says after the call.
use Rattle.single.proofs.Laws.Held.{open_held}
use Rattle.single.proofs.held.open.Goals as goal

pub returns : goal.returns
returns c = search open_held
