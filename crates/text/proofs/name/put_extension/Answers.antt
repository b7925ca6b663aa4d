-- Nothing for a blank part, else the dot and the part.
use Rattle.std.proofs.Common.{rules}
use Rattle.text.proofs.Laws.Names.{adds_no_extension, adds_extension}
use Rattle.text.proofs.name.put_extension.Goals as goal

pub returns-then-not-only_spaces : goal.returns-then-not-only_spaces
returns-then-not-only_spaces c = search (rules, adds_extension)

pub returns-else-not-only_spaces : goal.returns-else-not-only_spaces
returns-else-not-only_spaces c = search (rules, adds_no_extension)
