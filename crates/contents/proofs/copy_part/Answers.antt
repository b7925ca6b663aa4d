-- The part from a start to an end is the part of so many bytes.
use Rattle.contents.proofs.Laws.Leaves.{part_between}
use Rattle.contents.proofs.copy_part.Goals as goal

pub returns : goal.returns
returns c = search part_between
