-- The allowed bits are all that a good number has.
use Rattle.calls.proofs.Laws.Attribute.{attr_good, attr_bad}
use Rattle.calls.proofs.attribute.is_bad_attr.Goals as goal

pub returns-then-attr : goal.returns-then-attr
returns-then-attr c = search attr_good

pub returns-else-attr : goal.returns-else-attr
returns-else-attr c = search attr_bad
