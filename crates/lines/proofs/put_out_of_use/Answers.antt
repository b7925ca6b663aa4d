-- Lines put one after the other are the whole.
use Rattle.std.proofs.Common.{rules}
use Rattle.lines.specs.Lines.{out_of_use_text}
use Rattle.text.proofs.Laws.Pages.{adds_then}
use Rattle.lines.proofs.put_out_of_use.Goals as goal

pub returns : goal.returns
unfolding out_of_use_text
returns c = search (rules, adds_then)
