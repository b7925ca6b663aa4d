-- Two parts put one after the other are the name.
use Rattle.std.proofs.Common.{rules, length-take}
use Rattle.text.specs.Names.{name_text}
use Rattle.text.proofs.Laws.Pages.{adds_then}
use Rattle.text.proofs.name.NameShown.put.Goals as goal

pub returns : goal.returns
unfolding name_text
returns c = search (rules, adds_then, length-take)
