-- What byte 512 names is usable, so what the closure computes is a small number.
use Rattle.std.proofs.Common.{arith}
use Rattle.std.proofs.iter.Serving.{serving}
use Rattle.diskette.specs.Aids.Usable.{Usable}
use Rattle.diskette.proofs.Laws.Kinds.{named_usable}
use Rattle.diskette.proofs.kind_of_image.Goals as goal

pub filter-requires : goal.filter-requires
filter-requires c = λ k e p q. let u : Usable p.now = named_usable _ _ p.now c.named.ensures (rw q e) in grind (serving, arith)
