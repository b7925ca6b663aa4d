-- Bytes 0-21 and bytes 22-31 side by side are the whole entry.
use Rattle.fields.proofs.Laws.Fields.{entry_stored}
use Rattle.std.proofs.Common.{rules}
use Rattle.fields.proofs.write_entry.Goals as goal

pub returns : goal.returns
returns c = search (rules, entry_stored)
