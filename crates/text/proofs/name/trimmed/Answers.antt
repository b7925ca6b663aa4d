use Rattle.std.proofs.Common.{rules}
use Rattle.text.proofs.Laws.Names.{trimmed_turn, trimmed_done, trimmed_none}
use Rattle.text.proofs.name.trimmed.Goals as goal

pub loop-last-preserved : goal.loop-last-preserved
loop-last-preserved c = trimmed_turn _ _ c.loop-last.invariant _ _ c.in-Some.ensures.cases.0 (search rules)

pub returns-then-last-ne32 : goal.returns-then-last-ne32
returns-then-last-ne32 c = trimmed_done _ _ c.loop-last.invariant _ _ c.in-Some.ensures.cases.0 (search rules)

pub returns-in_default : goal.returns-in_default
returns-in_default c = search (rules, trimmed_none)
