-- With room in the buffer the listing is put there; else nothing is.
use Rattle.std.proofs.Common.{rules}
use Rattle.listing.proofs.Laws.Listing.{lists, lists_nothing}
use Rattle.listing.proofs.listing_put.Goals as goal

pub returns-then-out-lt16384 : goal.returns-then-out-lt16384
returns-then-out-lt16384 c = search lists_nothing

pub returns : goal.returns
returns c = search (rules, lists)
