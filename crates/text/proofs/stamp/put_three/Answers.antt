-- Pieces put one after the other are the whole.
use Rattle.std.proofs.Common.{rules}
use Rattle.text.specs.Stamps.{three_text}
use Rattle.text.proofs.Laws.Pages.{adds_then}
use Rattle.text.proofs.stamp.put_three.Goals as goal

pub returns : goal.returns
unfolding three_text
returns c = search (rules, adds_then)
