-- The record that the table of one record says after the call.
use Rattle.single.proofs.Laws.Held.{seek_held}
use Rattle.single.proofs.held.seek.Goals as goal

pub returns : goal.returns
returns c = search seek_held
