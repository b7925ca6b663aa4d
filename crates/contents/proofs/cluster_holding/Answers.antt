use Rattle.std.proofs.Common.{◌-◌, ◌/◌, arith}
use Rattle.chains.proofs.Laws.StepTurns.{followed_turn, followed_end}
use Rattle.contents.proofs.cluster_holding.Goals as goal

pub loop-preserved : goal.loop-preserved
loop-preserved c = followed_turn _ (c.args.pos / c.args.cb - c.loop.counter) _ _ _ _ (omega arith) c.value_of-cluster.ensures (omega arith) c.loop.invariant

pub returns : goal.returns
returns c = followed_end _ _ _ _ (omega arith) c.loop.invariant
