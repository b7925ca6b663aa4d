-- One store where there is no cluster before, else two.
use Rattle.links.proofs.Laws.Turns.{link_first, link_behind}
use Rattle.links.proofs.link_to.Goals as goal

pub returns-then-prev-ne0 : goal.returns-then-prev-ne0
returns-then-prev-ne0 c = search link_behind

pub returns-else-prev-ne0 : goal.returns-else-prev-ne0
returns-else-prev-ne0 c = search link_first
