-- A plain byte stays, any other is a question mark.
use Rattle.text.proofs.Laws.Names.{shown_plain, shown_other}
use Rattle.text.proofs.name.shown_byte.Goals as goal

pub returns-then-is_plain : goal.returns-then-is_plain
returns-then-is_plain c = search shown_plain

pub returns-else-is_plain : goal.returns-else-is_plain
returns-else-is_plain c = search shown_other
