-- Time, date, start and size side by side are the last ten bytes.
use Rattle.fields.proofs.Laws.Fields.{tail_stored}
use Rattle.std.proofs.Common.{rules}
use Rattle.fields.proofs.put_tail.Goals as goal

pub returns : goal.returns
returns c = search (rules, tail_stored)
