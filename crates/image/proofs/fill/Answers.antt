use Rattle.std.proofs.Common.{rules}
use Rattle.image.proofs.Laws.Store.{stored_part}
use Rattle.image.proofs.fill.Goals as goal

pub returns : goal.returns
returns c = search (rules, stored_part)
