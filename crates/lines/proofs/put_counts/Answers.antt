-- Lines put one after the other are the whole.
use Rattle.std.proofs.Common.{rules}
use Rattle.lines.specs.Lines.{counts_text}
use Rattle.text.proofs.Laws.Pages.{adds_then}
use Rattle.lines.proofs.put_counts.Goals as goal

pub returns : goal.returns
unfolding counts_text
returns c = search (rules, adds_then)
