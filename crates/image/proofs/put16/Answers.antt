use Rattle.std.proofs.Common.{rules}
use Rattle.image.specs.Numbers.{digits}
use Rattle.image.proofs.Laws.Store.{stored_part}
use Rattle.image.proofs.put16.Goals as goal

pub returns : goal.returns
unfolding digits
returns c = search (rules, stored_part)
