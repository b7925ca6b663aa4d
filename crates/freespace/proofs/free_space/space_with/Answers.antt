-- The clusters are what the kind says; the rest is given.
use Rattle.freespace.proofs.free_space.space_with.Goals as goal

pub returns : goal.returns
returns c = cc
