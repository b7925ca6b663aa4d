-- The two marks are stored last.
use Rattle.single.proofs.Laws.Held.{table_made}
use Rattle.single.proofs.held.table_of.Goals as goal

pub returns : goal.returns
returns c = search table_made
