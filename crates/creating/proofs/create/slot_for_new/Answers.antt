-- The root of a ready volume stands within its image.
use Rattle.calls.proofs.Laws.Ready.{on_usable}
use Rattle.calls.proofs.Laws.Files.{root_within, vacant_in_root}
use Rattle.creating.proofs.create.slot_for_new.Goals as goal

pub root_at-requires : goal.root_at-requires
root_at-requires c = search on_usable

pub root_entries-requires : goal.root_entries-requires
root_entries-requires c = search on_usable

pub lowest_vacant-requires : goal.lowest_vacant-requires
lowest_vacant-requires c = search root_within

pub returns : goal.returns
returns c = search vacant_in_root
