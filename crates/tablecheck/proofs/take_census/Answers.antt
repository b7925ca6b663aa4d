use Rattle.std.proofs.Common.{rules}
use Rattle.tablecheck.proofs.Laws.Tables.{met_start, met_all, counted_last}
use Rattle.tablecheck.proofs.take_census.Goals as goal

pub loop-c-init : goal.loop-c-init
loop-c-init c = search (rules, met_start)

pub returns-then-c-after : goal.returns-then-c-after
returns-then-c-after c = search counted_last

pub returns : goal.returns
returns c = search met_all
