-- Lines put one after the other are the whole.
use Rattle.std.proofs.Common.{rules}
use Rattle.lines.proofs.Laws.Lines.{adds_unsound}
use Rattle.lines.proofs.put_unsound.Goals as goal

pub returns : goal.returns
returns c = search (rules, adds_unsound)
