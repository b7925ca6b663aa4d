-- Each way out is one row that holds after those that don't.
use Rattle.calls.proofs.Laws.Exits.{exits}
use Rattle.calls.proofs.Laws.Ready.{on_usable}
use Rattle.calls.proofs.Laws.Stamps.{stamped}
use Rattle.calls.proofs.Laws.Files.{reached, live_counted, live_at_most, live_within}
use Rattle.closing.proofs.Laws.Close.{close_refused, close_well, was_written, not_written}
use Rattle.closing.proofs.close.close_on.Goals.{then-written_at, else-written_at}
use Rattle.closing.proofs.close.close_on.Goals as goal

pub returns-in_err-time : goal.returns-in_err-time
returns-in_err-time c = close_refused (exits c.from_residual.ensures.1) (search (stamped, reached, c.in_err-time.was))

pub returns-in_err-slot : goal.returns-in_err-slot
returns-in_err-slot c = close_refused (exits c.from_residual-in_err-slot.ensures.1) (search (stamped, reached, c.in_ok-time.was, c.in_err-slot.was))

pub written_at-requires : goal.written_at-requires
written_at-requires c = search (live_counted, c.in_ok-slot.was)

pub slot_at-requires-clause-usable : goal.slot_at-requires-clause-usable
slot_at-requires-clause-usable c = search on_usable

pub slot_at-requires-clause-slot_bound : goal.slot_at-requires-clause-slot_bound
slot_at-requires-clause-slot_bound c = search (live_at_most, c.in_ok-slot.was)

pub stamp_entry-requires : goal.stamp_entry-requires
stamp_entry-requires c = search (live_within, c.in_ok-slot.was)

pub clear-requires : goal.clear-requires
clear-requires c = search (live_counted, c.in_ok-slot.was)

pub returns : goal.returns
returns c =
    elim c.if-written_at.branch [
      | then-written_at w ↦ search (close_well, was_written, c.in_ok-time.was, c.in_ok-slot.was)
      | else-written_at w ↦ search (close_well, not_written, c.in_ok-time.was, c.in_ok-slot.was)
    ]
