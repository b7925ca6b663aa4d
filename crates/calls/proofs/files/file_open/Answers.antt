-- The root of a ready volume stands within its image.
use Rattle.calls.proofs.Laws.Ready.{on_usable}
use Rattle.calls.proofs.Laws.Files.{root_within, live_in_root}
use Rattle.calls.proofs.files.file_open.Goals as goal

pub root_at-requires : goal.root_at-requires
root_at-requires c = search on_usable

pub root_entries-requires : goal.root_entries-requires
root_entries-requires c = search on_usable

pub live_slot-requires : goal.live_slot-requires
live_slot-requires c = search root_within

pub returns : goal.returns
returns c = search live_in_root
