-- What a byte names is usable.
use Rattle.diskette.proofs.Laws.Kinds.{named_usable}
use Rattle.worked.proofs.run.sector.Goals as goal

pub last_cluster-requires : goal.last_cluster-requires
last_cluster-requires c = search named_usable

pub sector_of-requires-clause-usable : goal.sector_of-requires-clause-usable
sector_of-requires-clause-usable c = search named_usable
