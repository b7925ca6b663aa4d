-- The meaning of the value says which count goes up.
use Rattle.tablecheck.proofs.Laws.Tables.{met_on, met_none}
use Rattle.std.proofs.Common.{inl, inr, rules}
use Rattle.tablecheck.proofs.counted.Goals as goal

pub returns-in-Free : goal.returns-in-Free
returns-in-Free c = search (rules, met_on)

pub returns-in-Bad : goal.returns-in-Bad
returns-in-Bad c = search (rules, met_on)

pub returns-in-Reserved : goal.returns-in-Reserved
returns-in-Reserved c = search (rules, met_on)

pub returns-in-NoneOfThese : goal.returns-in-NoneOfThese
returns-in-NoneOfThese c = search met_none

pub returns-in-Next : goal.returns-in-Next
returns-in-Next c = elim c.in-Next.is [ inl w ↦ search (rules, met_on) | inr w ↦ search (rules, met_on) ]
