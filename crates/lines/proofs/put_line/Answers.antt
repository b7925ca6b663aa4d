-- A key, a value and an end are a line.
use Rattle.std.proofs.Common.{rules}
use Rattle.lines.proofs.Laws.Lines.{adds_line}
use Rattle.lines.proofs.put_line.Goals as goal

pub returns : goal.returns
returns g c = search (rules, adds_line)
