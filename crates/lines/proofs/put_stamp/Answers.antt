-- Lines put one after the other are the whole.
use Rattle.std.proofs.Common.{rules}
use Rattle.lines.specs.Lines.{stamp_text}
use Rattle.text.proofs.Laws.Pages.{adds_then}
use Rattle.lines.proofs.put_stamp.Goals as goal

pub returns : goal.returns
unfolding stamp_text
returns c = search (rules, adds_then)
