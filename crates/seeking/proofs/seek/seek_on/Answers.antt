-- Each way out is one row that holds after those that don't.
use Rattle.calls.proofs.Laws.Exits.{exits}
use Rattle.calls.proofs.Laws.Files.{reached, live_slot_lem, live_below, live_counted}
use Rattle.seeking.proofs.Laws.Seek.{method_stops, method_past, beyond_stops, seek_refused, seek_well}
use Rattle.seeking.proofs.seek.seek_on.Goals as goal

ruleset rows = (reached, method_stops, method_past, beyond_stops)

pub returns-in_err-method : goal.returns-in_err-method
returns-in_err-method c = seek_refused (exits c.from_residual.ensures.1) (search (rows, c.in_err-method.was))

pub returns-in_err-slot : goal.returns-in_err-slot
returns-in_err-slot c = seek_refused (exits c.from_residual-in_err-slot.ensures.1) (search (rows, c.in_ok-method.was, c.in_err-slot.was))

pub base_of-base-requires-clause-place_bound : goal.base_of-base-requires-clause-place_bound
base_of-base-requires-clause-place_bound c = search (live_counted, c.in_ok-slot.was)

pub base_of-base-requires-clause-slot_bound : goal.base_of-base-requires-clause-slot_bound
base_of-base-requires-clause-slot_bound c = search (live_below, c.in_ok-slot.was)

pub base_of-base-requires-clause-slot_value : goal.base_of-base-requires-clause-slot_value
base_of-base-requires-clause-slot_value c = search (live_slot_lem, c.in_ok-slot.was)

pub returns-in_err-pointer : goal.returns-in_err-pointer
returns-in_err-pointer c =
    seek_refused (exits c.from_residual-in_err-pointer.ensures.1) (search (rows, c.in_ok-method.was, c.in_ok-method.ensures, c.in_ok-slot.was, c.in_err-pointer.was))

pub put_pointer-requires : goal.put_pointer-requires
put_pointer-requires c = search (live_counted, c.in_ok-slot.was)

pub returns : goal.returns
returns c = search (seek_well, c.in_ok-method.ensures, c.in_ok-slot.was, c.in_ok-pointer.was)
