-- Each way out is one row that holds after those that don't.
use Rattle.calls.proofs.Laws.Exits.{exits}
use Rattle.holding.proofs.Laws.Kinds.{usable, root_inside}
use Rattle.rescuing.proofs.Laws.Rescue.{rows, rescue_refused, found_file, found_low, found_inside, rescue_well}
use Rattle.std.proofs.Common.{refl}
use Rattle.rescuing.proofs.rescue.rescue_on.Goals as goal

pub returns-in_err-name : goal.returns-in_err-name
returns-in_err-name c = rescue_refused (exits c.from_residual.ensures.1) (search (rows, c.in_err-name.was))

pub root_at-requires : goal.root_at-requires
root_at-requires c = search usable

pub root_entries-requires : goal.root_entries-requires
root_entries-requires c = search usable

pub slot_named-requires : goal.slot_named-requires
slot_named-requires c = search root_inside

pub returns-in_err-slot : goal.returns-in_err-slot
returns-in_err-slot c = rescue_refused (exits c.from_residual-in_err-slot.ensures.1) (search (rows, c.in_ok-name.was, c.in_err-slot.was))

pub has_good_chain-requires-clause-file : goal.has_good_chain-requires-clause-file
has_good_chain-requires-clause-file c = search (found_file, c.in_ok-name.was, c.in_ok-slot.was)

pub returns-then-not-has_good_chain : goal.returns-then-not-has_good_chain
returns-then-not-has_good_chain c = rescue_refused refl (search (rows, c.in_ok-name.was, c.in_ok-slot.was))

pub slot_at-requires-clause-usable : goal.slot_at-requires-clause-usable
slot_at-requires-clause-usable c = search usable

pub slot_at-requires-clause-slot_bound : goal.slot_at-requires-clause-slot_bound
slot_at-requires-clause-slot_bound c = search (found_low, c.in_ok-name.was, c.in_ok-slot.was)

pub size_at-size-requires : goal.size_at-size-requires
size_at-size-requires c = search (found_inside, c.in_ok-name.was, c.in_ok-slot.was)

pub copy_out-requires-clause-file : goal.copy_out-requires-clause-file
copy_out-requires-clause-file c = search (found_file, c.in_ok-name.was, c.in_ok-slot.was)

pub returns : goal.returns
returns c = search (rescue_well, c.in_ok-name.was, c.in_ok-slot.was)
