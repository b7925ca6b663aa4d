-- The entry stands behind the tables.
use Rattle.putting.proofs.Laws.LongerCode.{start_fits, lengthened_is}
use Rattle.putting.proofs.longer.lengthen.Goals as goal

pub put_fields-requires-clause-start_bound : goal.put_fields-requires-clause-start_bound
put_fields-requires-clause-start_bound c = search start_fits

pub returns : goal.returns
returns c = search lengthened_is
