-- The record that the table of one record says after the call.
use Rattle.single.proofs.Laws.Held.{write_held}
use Rattle.single.proofs.held.write.Goals as goal

pub returns : goal.returns
returns c = search write_held
