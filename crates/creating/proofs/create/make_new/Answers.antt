-- Each way out is one row that holds after those that don't.
use Rattle.calls.proofs.Laws.Exits.{exits}
use Rattle.calls.proofs.Laws.Ready.{on_usable}
use Rattle.calls.proofs.Laws.Files.{unused_below, unused_fits, place_stops}
use Rattle.creating.proofs.Laws.Create.{open_at_most, open_fits, open_within, slot_stops, slot_past, new_refused, new_well}
use Rattle.std.proofs.Common.{rules}
use Rattle.creating.proofs.create.make_new.Goals as goal

ruleset rows = (slot_stops, slot_past, place_stops)

pub returns-in_err-slot : goal.returns-in_err-slot
returns-in_err-slot c = new_refused (exits c.from_residual.ensures.1) (search (rows, c.in_err-slot.was))

pub returns-in_err-place : goal.returns-in_err-place
returns-in_err-place c = new_refused (exits c.from_residual-in_err-place.ensures.1) (search (rows, c.in_ok-slot.was, c.in_err-place.was))

pub slot_at-requires-clause-usable : goal.slot_at-requires-clause-usable
slot_at-requires-clause-usable c = search on_usable

pub slot_at-requires-clause-slot_bound : goal.slot_at-requires-clause-slot_bound
slot_at-requires-clause-slot_bound c = search (open_at_most, c.in_ok-slot.was)

pub write_entry-requires : goal.write_entry-requires
write_entry-requires c = search (open_within, c.in_ok-slot.was)

pub overflow_cast-slot : goal.overflow_cast-slot
overflow_cast-slot c = search (rules, open_fits, c.in_ok-slot.was)

pub put_record-requires : goal.put_record-requires
put_record-requires c = search (unused_below, c.in_ok-place.was)

pub overflow_cast-result : goal.overflow_cast-result
overflow_cast-result c = search (rules, unused_fits, c.in_ok-place.was)

pub returns : goal.returns
returns c = search (new_well, c.in_ok-slot.was, c.in_ok-place.was)
