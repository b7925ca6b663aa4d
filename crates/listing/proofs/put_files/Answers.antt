use Rattle.std.proofs.Common.{rules}
use Rattle.listing.proofs.Laws.Files.{adds_no_slots, adds_more_slots}
use Rattle.listing.proofs.put_files.Goals as goal

pub loop-slot-init : goal.loop-slot-init
loop-slot-init c = search (rules, adds_no_slots)

pub loop-slot-preserved : goal.loop-slot-preserved
loop-slot-preserved c = search (rules, adds_more_slots)
