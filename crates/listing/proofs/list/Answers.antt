-- By the kind that was found and by what check answered.
use Rattle.std.proofs.Common.{rules}
use Rattle.listing.proofs.Laws.Listing.{area_found, adds_listing, adds_finding, adds_no_kind}
use Rattle.listing.proofs.list.Goals as goal

pub put_volume-requires-clause-area_of : goal.put_volume-requires-clause-area_of
put_volume-requires-clause-area_of c = search area_found

pub returns-in-Ok : goal.returns-in-Ok
returns-in-Ok c = search (rules, adds_listing)

pub returns-in-Err : goal.returns-in-Err
returns-in-Err c = search (rules, adds_finding)

pub returns-in-None : goal.returns-in-None
returns-in-None c = search (rules, adds_no_kind)
