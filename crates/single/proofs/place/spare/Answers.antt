-- An unused record, marked as used where none is free.
use Rattle.records.proofs.Laws.Row.{default_is}
use Rattle.single.proofs.Laws.OpenAt.{spare_by}
use Rattle.single.proofs.place.spare.Goals as goal

pub returns : goal.returns
returns c = spare_by _ _ _ c.is_none.ensures (default_is c.default.ensures)
