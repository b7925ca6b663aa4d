use Rattle.std.proofs.Common.{rules}
use Rattle.listing.proofs.Laws.Files.{adds_entry}
use Rattle.listing.proofs.put_entry.Goals as goal

pub returns : goal.returns
returns c = search (rules, adds_entry)
