use Rattle.std.proofs.Common.{arith, ◌∙◌, refl}
use Rattle.std.proofs.lemmas.Grind.{common_steps}
use Rattle.links.proofs.Laws.Extent.{extent_all, extent_stops, extent_turn, extent_done}
use Rattle.links.proofs.extent_of.Goals as goal

pub loop-clusters-init : goal.loop-clusters-init
loop-clusters-init c = (refl, extent_all _ _ _)

pub loop-clusters-preserved : goal.loop-clusters-preserved
loop-clusters-preserved c = (refl, extent_turn _ _ _ _ _ _ c.loop-clusters.invariant.1 c.loop-clusters.invariant.0 c.loop-clusters-test.true (grind (arith, common_steps)) (grind (arith, common_steps)) _ (c.from-cluster.ensures ∙ c.entry.ensures))

pub returns-after-loop-clusters : goal.returns-after-loop-clusters
returns-after-loop-clusters c = extent_done _ _ _ _ _ _ c.loop-clusters.invariant.1 c.loop-clusters-test.false

pub returns-then-not-contains : goal.returns-then-not-contains
returns-then-not-contains c = extent_stops _ _ _ _ _ _ c.loop-clusters.invariant.1 (grind (arith, common_steps))
