-- Bytes make entries of 12 bits.
use Rattle.walks.proofs.Laws.Value.{value_is}
use Rattle.std.proofs.Common.{rules}
use Rattle.walks.proofs.chain.value_of.Goals as goal

pub returns : goal.returns
returns c = value_is _ _ _ _ (search rules) (search rules) (search rules) c.entry.ensures
