-- The bytes of a cluster in range lie within the volume, and begin with its sector.
use Rattle.worked.proofs.Laws.Sectors.{some_bytes, cluster_fits, sector_is}
use Rattle.worked.proofs.run.sector_of.Goals as goal

pub byte_in-requires-clause-cb_nonzero : goal.byte_in-requires-clause-cb_nonzero
byte_in-requires-clause-cb_nonzero c = search some_bytes

pub byte_in-requires-clause-cb_bound : goal.byte_in-requires-clause-cb_bound
byte_in-requires-clause-cb_bound c = search cluster_fits

pub returns : goal.returns
returns c = search sector_is
