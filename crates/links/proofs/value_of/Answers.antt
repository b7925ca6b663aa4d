-- The table has an entry of each cluster, and 0 elsewhere.
use Rattle.std.proofs.Common.{arith}
use Rattle.std.proofs.lemmas.Grind.{common_steps}
use Rattle.table.proofs.Laws.View.{table_inside, table_outside}
use Rattle.links.proofs.value_of.Goals as goal

pub returns-then-contains : goal.returns-then-contains
returns-then-contains c = grind (arith, common_steps, table_inside)

pub returns-else-contains : goal.returns-else-contains
returns-else-contains c = grind (arith, common_steps, table_outside)
