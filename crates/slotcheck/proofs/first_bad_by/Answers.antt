use Rattle.std.proofs.Common.{rules}
use Rattle.search.proofs.Laws.Turns.{lowest_all, lowest_done}
use Rattle.slotcheck.specs.Aids.Slots.{any_below}
use Rattle.slotcheck.proofs.Laws.Slots.{any_more, bad_found, bad_not_here}
use Rattle.slotcheck.proofs.first_bad_by.Goals as goal

pub loop-s-init : goal.loop-s-init
unfolding any_below
loop-s-init c = search (rules, lowest_all)

pub returns-then-is_bad : goal.returns-then-is_bad
returns-then-is_bad c = search bad_found

pub loop-s-preserved : goal.loop-s-preserved
loop-s-preserved c = let tested = c.is_bad.ensures in
    (search any_more, search any_more, bad_not_here _ _ _ _ _ _ tested.is (search rules) (search rules) _ _ (search rules) (search rules) (search rules), search rules, tested.met (search rules))

pub returns : goal.returns
returns c = search lowest_done
