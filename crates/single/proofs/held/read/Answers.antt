-- The record that the table of one record says after the call.
use Rattle.single.proofs.Laws.Held.{read_held}
use Rattle.single.proofs.held.read.Goals as goal

pub returns : goal.returns
returns c = search read_held
