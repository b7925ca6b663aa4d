-- A number that is no byte names nothing.
use Rattle.std.proofs.Common.{arith}
use Rattle.formatting.proofs.Laws.Format.{above_bytes}
use Rattle.formatting.proofs.format.kind_numbered.Goals as goal

pub returns-in-Err : goal.returns-in-Err
returns-in-Err c = above_bytes _ (omega (arith, c.in-Err.ensures))
