use Rattle.std.proofs.Common.{rules}
use Rattle.listing.proofs.Laws.Files.{adds_slot, adds_no_file}
use Rattle.listing.proofs.put_slot.Goals as goal

pub returns-then-plain_at : goal.returns-then-plain_at
returns-then-plain_at c = search (rules, adds_slot)

pub returns-else-plain_at : goal.returns-else-plain_at
returns-else-plain_at c = search (rules, adds_no_file)
