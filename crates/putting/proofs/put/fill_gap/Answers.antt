-- No zeros are put where the pointer is not past the size.
use Rattle.putting.proofs.Laws.Put.{gap_none}
use Rattle.putting.proofs.put.fill_gap.Goals as goal

pub returns-then-pointer-size : goal.returns-then-pointer-size
returns-then-pointer-size c = search gap_none
