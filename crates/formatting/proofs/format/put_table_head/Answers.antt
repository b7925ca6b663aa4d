-- Three bytes stored one by one are the run of three.
use Rattle.std.proofs.Common.{arith}
use lib.ListN.{length-set}
use Rattle.formatting.proofs.Laws.Format.{head_stored}
use Rattle.formatting.proofs.format.put_table_head.Goals as goal

pub bounds-img-at-2 : goal.bounds-img-at-2
bounds-img-at-2 c = simp length-set (omega arith)

pub bounds-img-at-3 : goal.bounds-img-at-3
bounds-img-at-3 c = simp length-set (omega arith)

pub returns : goal.returns
returns c = search head_stored
