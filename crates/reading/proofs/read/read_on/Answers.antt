-- Each way out is one row that holds after those that don't.
use Rattle.calls.proofs.Laws.Exits.{exits, had}
use Rattle.calls.proofs.Laws.Ready.{on_usable}
use Rattle.calls.proofs.Laws.Files.{reached, live_counted, live_at_most, live_within}
use Rattle.holding.proofs.Laws.Found.{live_file}
use Rattle.reading.proofs.Laws.Read.{read_stops, read_refused, read_well}
use Rattle.std.proofs.Common.{refl}
use Rattle.reading.proofs.read.read_on.Goals as goal

ruleset rows = (reached, read_stops)

pub returns-in_err-slot : goal.returns-in_err-slot
returns-in_err-slot c = read_refused (exits c.from_residual.ensures.1) (search (rows, c.in_err-slot.was))

pub access_at-requires : goal.access_at-requires
access_at-requires c = search (live_counted, c.in_ok-slot.was)

pub returns-then-access_at-eq1 : goal.returns-then-access_at-eq1
returns-then-access_at-eq1 c = read_refused refl (search (rows, c.in_ok-slot.was))

pub pointer_at-pointer-requires : goal.pointer_at-pointer-requires
pointer_at-pointer-requires c = search (live_counted, c.in_ok-slot.was)

pub slot_at-requires-clause-usable : goal.slot_at-requires-clause-usable
slot_at-requires-clause-usable c = search on_usable

pub slot_at-requires-clause-slot_bound : goal.slot_at-requires-clause-slot_bound
slot_at-requires-clause-slot_bound c = search (live_at_most, c.in_ok-slot.was)

pub size_at-requires : goal.size_at-requires
size_at-requires c = search (live_within, c.in_ok-slot.was)

pub copy_out-requires-clause-file : goal.copy_out-requires-clause-file
copy_out-requires-clause-file c = search (live_file, had, c.in_ok-slot.was)

pub put_pointer-requires : goal.put_pointer-requires
put_pointer-requires c = search (live_counted, c.in_ok-slot.was)

pub returns : goal.returns
returns c = search (read_well, c.in_ok-slot.was)
