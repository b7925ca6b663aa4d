-- Name, attribute and the rest stand side by side.
use Rattle.std.proofs.Common.{rules}
use Rattle.image.specs.Store.{stored}
use Rattle.scale.proofs.Laws.Out.{fields_short, fields_stored}
use Rattle.scale.proofs.put.entry_fields.Goals as goal

pub returns-then-out-lt22 : goal.returns-then-out-lt22
returns-then-out-lt22 c = search fields_short

pub returns : goal.returns
unfolding stored
returns c = search (rules, fields_stored)
