-- Three fields are stored one after the other.
use Rattle.closing.proofs.Laws.Close.{stamped_is}
use Rattle.closing.proofs.close.stamp_entry.Goals as goal

pub returns : goal.returns
returns c = search stamped_is
