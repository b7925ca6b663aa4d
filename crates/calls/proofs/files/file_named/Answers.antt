-- The root of a ready volume stands within its image.
use Rattle.calls.proofs.Laws.Ready.{on_usable}
use Rattle.calls.proofs.Laws.Files.{root_within, named_in_root}
use Rattle.calls.proofs.files.file_named.Goals as goal

pub root_at-requires : goal.root_at-requires
root_at-requires c = search on_usable

pub root_entries-requires : goal.root_entries-requires
root_entries-requires c = search on_usable

pub slot_named-requires : goal.slot_named-requires
slot_named-requires c = search root_within

pub returns : goal.returns
returns c = search named_in_root
