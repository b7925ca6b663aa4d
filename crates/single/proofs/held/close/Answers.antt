-- The record that the table of one record says after the call.
use Rattle.single.proofs.Laws.Held.{close_held}
use Rattle.single.proofs.held.close.Goals as goal

pub returns : goal.returns
returns c = search close_held
