use Rattle.std.proofs.Common.{arith, ◌∙◌}
use Rattle.std.proofs.lemmas.Grind.{common_steps}
use Rattle.links.proofs.Laws.Turns.{freed_stops, freed_turn, freed_end}
use Rattle.links.proofs.free_chain.Goals as goal

pub returns-then-not-contains : goal.returns-then-not-contains
returns-then-not-contains c = freed_stops _ _ _ _ _ _ _ c.loop.invariant c.loop-test.true (grind (arith, common_steps))

pub loop-preserved : goal.loop-preserved
loop-preserved c = freed_turn _ _ _ _ _ _ _ c.loop.invariant c.loop-test.true _ _ c.set_entry.ensures (c.from-next.ensures ∙ c.entry.ensures) (grind (arith, common_steps)) (grind (arith, common_steps))

pub returns : goal.returns
returns c = search freed_end
