-- The cluster that was found holds that byte.
use Rattle.contents.proofs.Laws.Leaves.{met_from, met_fits, met_place}
use Rattle.std.proofs.Common.{rules}
use Rattle.contents.proofs.place_of.Goals as goal

pub byte_in-requires : goal.byte_in-requires
byte_in-requires c = search (rules, met_from, met_fits)

pub returns : goal.returns
returns c = search met_place
