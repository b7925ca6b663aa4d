-- One byte set is a run of one byte stored.
use Rattle.image.specs.Store.{stored}
use Rattle.std.proofs.Common.{rules}
use Rattle.fields.proofs.put_first.Goals as goal

pub returns : goal.returns
unfolding stored
returns c = search rules
