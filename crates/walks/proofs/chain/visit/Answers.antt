-- The walk answers, and where it met clusters again the number left is stored for all it met.
use Rattle.walks.proofs.Laws.Tails.{visit_empty, visit_below, visit_above, visit_endless, walk_leads, walk_known, walk_few, visit_ends}
use Rattle.walks.proofs.chain.visit.Goals as goal

pub returns-then-start-eq0 : goal.returns-then-start-eq0
returns-then-start-eq0 c = search visit_empty

pub returns-then-start-lt2 : goal.returns-then-start-lt2
returns-then-start-lt2 c = search visit_below

pub returns-then-last-start : goal.returns-then-last-start
returns-then-last-start c = search visit_above

pub store_left-requires-clause-known_le_n : goal.store_left-requires-clause-known_le_n
store_left-requires-clause-known_le_n c = (search walk_known, search walk_few)

pub store_left-requires-clause-leads_to : goal.store_left-requires-clause-leads_to
store_left-requires-clause-leads_to c = search walk_leads

pub returns-in-Some : goal.returns-in-Some
returns-in-Some c = search visit_ends

pub returns-in-None : goal.returns-in-None
returns-in-None c = search visit_endless
