-- What a byte names is usable.
use Rattle.diskette.proofs.Laws.Kinds.{named_usable}
use Rattle.worked.proofs.run.clusters.Goals as goal

pub needed_for-requires : goal.needed_for-requires
needed_for-requires c = search named_usable
