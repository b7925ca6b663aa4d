-- The head's lines and the files' are the volume's, and the four kinds' slots leave them room.
use Rattle.listing.proofs.Laws.Listing.{kind_usable, root_within, files_fit, adds_volume}
use Rattle.listing.proofs.put_volume.Goals as goal

pub clusters-requires : goal.clusters-requires
clusters-requires c = search kind_usable

pub root_at-requires : goal.root_at-requires
root_at-requires c = search kind_usable

pub root_entries-requires : goal.root_entries-requires
root_entries-requires c = search kind_usable

pub put_files-requires-clause-count_in_bounds : goal.put_files-requires-clause-count_in_bounds
put_files-requires-clause-count_in_bounds c = search root_within

pub put_files-requires-clause-count_in_bounds_2 : goal.put_files-requires-clause-count_in_bounds_2
put_files-requires-clause-count_in_bounds_2 c = search files_fit

pub returns : goal.returns
returns c = search adds_volume
