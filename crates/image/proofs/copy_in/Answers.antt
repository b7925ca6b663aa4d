use Rattle.std.proofs.Common.{rules}
use Rattle.image.proofs.Laws.Store.{stored_turn, stored_done}
use Rattle.image.proofs.copy_in.Goals as goal

pub loop-i-preserved : goal.loop-i-preserved
loop-i-preserved c = search (rules, stored_turn)

pub returns : goal.returns
returns c = search stored_done
