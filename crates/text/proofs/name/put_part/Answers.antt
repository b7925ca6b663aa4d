use Rattle.std.proofs.Common.{rules}
use Rattle.text.proofs.Laws.Pages.{adds_nothing}
use Rattle.text.proofs.Laws.Names.{length_part_kept, adds_next, adds_part}
use Rattle.text.proofs.name.put_part.Goals as goal

pub loop-c-init : goal.loop-c-init
loop-c-init c = search (rules, adds_nothing)

pub put_byte-requires : goal.put_byte-requires
put_byte-requires c = search (rules, length_part_kept)

pub loop-c-preserved : goal.loop-c-preserved
loop-c-preserved c = search (rules, adds_next)

pub returns : goal.returns
returns c = search (rules, adds_part, length_part_kept)
