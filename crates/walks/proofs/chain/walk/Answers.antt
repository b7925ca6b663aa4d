use Rattle.std.proofs.Common.{rules}
use Rattle.walks.proofs.Laws.WalkTurns.{walk_begins, walk_circles, walk_joins, mark_fits, walk_ends_stored, walk_ends, walk_goes_on, walk_breaks, walk_spent}
use Rattle.walks.proofs.chain.walk.Goals as goal

pub loop-met-init : goal.loop-met-init
loop-met-init c = search (rules, walk_begins)

pub returns-then-rest-eq0 : goal.returns-then-rest-eq0
returns-then-rest-eq0 c = search walk_circles

pub returns-then-before-eq2 : goal.returns-then-before-eq2
returns-then-before-eq2 c = search walk_joins

pub overflow_add-marks : goal.overflow_add-marks
overflow_add-marks c = search mark_fits

pub returns-then-before-eq1 : goal.returns-then-before-eq1
returns-then-before-eq1 c = search walk_ends_stored

pub returns-in-End : goal.returns-in-End
returns-in-End c = search walk_ends

pub loop-met-preserved : goal.loop-met-preserved
loop-met-preserved c = search (rules, walk_goes_on)

pub returns-in-Free : goal.returns-in-Free
returns-in-Free c = search (rules, walk_breaks)

pub returns-in-Bad : goal.returns-in-Bad
returns-in-Bad c = search (rules, walk_breaks)

pub returns-in-Reserved : goal.returns-in-Reserved
returns-in-Reserved c = search (rules, walk_breaks)

pub returns-in-NoneOfThese : goal.returns-in-NoneOfThese
returns-in-NoneOfThese c = search (rules, walk_breaks)

pub returns : goal.returns
returns c = search walk_spent
