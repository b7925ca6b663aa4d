-- One method a way out.
use Rattle.records.proofs.Laws.Seek.{base_zero, base_pointer, base_size}
use Rattle.lent.proofs.base_of.Goals as goal

pub returns-in-Start : goal.returns-in-Start
returns-in-Start c = search base_zero

pub returns-in-Pointer : goal.returns-in-Pointer
returns-in-Pointer c = search base_pointer

pub returns-in-Size : goal.returns-in-Size
returns-in-Size c = search base_size
