-- Each way out is one row that holds after those that don't.
use Rattle.calls.proofs.Laws.Exits.{exits, had}
use Rattle.calls.proofs.Laws.Files.{reached, live_counted, live_at_most}
use Rattle.calls.proofs.Laws.Ready.{on_usable}
use Rattle.holding.proofs.Laws.Found.{live_file_at}
use Rattle.writing.proofs.Laws.Write.{write_stops, write_refused, write_well}
use Rattle.std.proofs.Common.{refl}
use Rattle.writing.proofs.write.write_on.Goals as goal

ruleset rows = (reached, write_stops)

pub returns-in_err-slot : goal.returns-in_err-slot
returns-in_err-slot c = write_refused (exits c.from_residual.ensures.1) (search (rows, c.in_err-slot.was))

pub access_at-requires : goal.access_at-requires
access_at-requires c = search (live_counted, c.in_ok-slot.was)

pub returns-then-access_at-eq0 : goal.returns-then-access_at-eq0
returns-then-access_at-eq0 c = write_refused refl (search (rows, c.in_ok-slot.was))

pub slot_at-requires-clause-usable : goal.slot_at-requires-clause-usable
slot_at-requires-clause-usable c = search on_usable

pub slot_at-requires-clause-slot_bound : goal.slot_at-requires-clause-slot_bound
slot_at-requires-clause-slot_bound c = search (live_at_most, c.in_ok-slot.was)

pub write_at-requires-clause-file_at : goal.write_at-requires-clause-file_at
write_at-requires-clause-file_at c = search (live_file_at, had, c.in_ok-slot.was)

pub write_at-requires-clause-place_bound : goal.write_at-requires-clause-place_bound
write_at-requires-clause-place_bound c = search (live_counted, c.in_ok-slot.was)

pub returns : goal.returns
returns c = search (write_well, c.in_ok-slot.was)
