-- Name, attribute and zeros side by side are the first 22 bytes.
use Rattle.fields.proofs.Laws.Fields.{head_stored}
use Rattle.std.proofs.Common.{rules}
use Rattle.fields.proofs.put_head.Goals as goal

pub returns : goal.returns
returns c = search (rules, head_stored)
