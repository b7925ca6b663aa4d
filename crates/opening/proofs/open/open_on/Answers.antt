-- Each way out is one row that holds after those that don't.
use Rattle.opening.proofs.Laws.Open.{open_refused, open_well, barred_stops, barred_past}
use Rattle.calls.proofs.Laws.Exits.{exits}
use Rattle.calls.proofs.Laws.Named.{named, file_named, file_slot_lem, found_below, found_fits}
use Rattle.calls.proofs.Laws.Files.{unused_below, unused_fits, place_stops}
use Rattle.calls.proofs.Laws.Rows.{bounds}
use Rattle.std.proofs.Common.{rules, refl}
use Rattle.opening.proofs.open.open_on.Goals as goal

ruleset rows = (named, bounds, barred_stops, barred_past, file_slot_lem, place_stops)

pub returns-then-access-gt2 : goal.returns-then-access-gt2
returns-then-access-gt2 c = open_refused refl (search rows)

pub returns-in_err-name : goal.returns-in_err-name
returns-in_err-name c = open_refused (exits c.from_residual.ensures.1) (search (rows, c.in_err-name.was))

pub returns-in_err-slot : goal.returns-in_err-slot
returns-in_err-slot c = open_refused (exits c.from_residual-in_err-slot.ensures.1) (search (rows, c.in_ok-name.was, c.in_err-slot.was))

pub is_barred-requires-clause-slot_bound : goal.is_barred-requires-clause-slot_bound
is_barred-requires-clause-slot_bound c = search (found_below, c.in_ok-name.was, c.in_ok-slot.was)

pub returns-then-is_barred : goal.returns-then-is_barred
returns-then-is_barred c = open_refused refl (search (rows, c.in_ok-name.was, c.in_ok-slot.was) depth 8)

pub returns-in_err-place : goal.returns-in_err-place
returns-in_err-place c = open_refused (exits c.from_residual-in_err-place.ensures.1) (search (rows, c.in_ok-name.was, c.in_ok-slot.was, c.in_err-place.was) depth 8)

pub overflow_cast-slot : goal.overflow_cast-slot
overflow_cast-slot c = search (rules, found_fits, c.in_ok-name.was, c.in_ok-slot.was)

pub put_record-requires : goal.put_record-requires
put_record-requires c = search (unused_below, c.in_ok-place.was)

pub overflow_cast-result : goal.overflow_cast-result
overflow_cast-result c = search (rules, unused_fits, c.in_ok-place.was)

pub returns : goal.returns
returns c = search (open_well, file_named, c.in_ok-name.was, c.in_ok-slot.was, c.in_ok-place.was)
