-- Three numbers, or none where the word is out of range.
use Rattle.std.proofs.Common.{rules}
use Rattle.text.specs.Stamps.{date_shown}
use Rattle.text.proofs.Laws.Pages.{adds_shown}
use Rattle.text.proofs.stamp.DateWordShown.put.Goals as goal

pub returns-in-Some : goal.returns-in-Some
unfolding date_shown
returns-in-Some c = search (rules, adds_shown date_shown)

pub returns-in-None : goal.returns-in-None
unfolding date_shown
returns-in-None c = search (rules, adds_shown date_shown)
