-- The files of the slots so far are put.
use Rattle.std.proofs.Common.{◌*◌}
use Rattle.diskette.specs.Places.{slot_from}
use Rattle.text.specs.Aids.Pages.{AddsIn}
use Rattle.lines.specs.Aids.Rooms.{file_room}
use Rattle.listing.specs.Listing.{files_text}
use Rattle.listing.proofs.put_files.Given as goal

abbrev pub invariant-loop-slot : goal.invariant-loop-slot
invariant-loop-slot l = AddsIn (file_room * l.slot) (files_text l.area (slot_from l.root) 0 l.slot) l.initial.page l.page
