-- Each way out is one row that holds after those that don't.
use Rattle.calls.proofs.Laws.Exits.{exits}
use Rattle.calls.proofs.Laws.Ready.{on_usable}
use Rattle.calls.proofs.Laws.Files.{unused_below, unused_fits, place_stops}
use Rattle.calls.proofs.Laws.Rows.{tests}
use Rattle.holding.proofs.Laws.Chain.{slot_fits, file_at}
use Rattle.freeing.proofs.Laws.Freed.{freed_within}
use Rattle.creating.proofs.Laws.Create.{old_refused, empty_well}
use Rattle.std.proofs.Common.{rules, refl}
use Rattle.creating.proofs.create.empty_old.Goals as goal

ruleset rows = (tests, place_stops)

pub returns-then-is_open : goal.returns-then-is_open
returns-then-is_open c = old_refused refl (search rows)

pub returns-then-is_read_only : goal.returns-then-is_read_only
returns-then-is_read_only c = old_refused refl (search rows)

pub returns-in_err-place : goal.returns-in_err-place
returns-in_err-place c = old_refused (exits c.from_residual.ensures.1) (search (rows, c.in_err-place.was))

pub slot_at-a-requires-clause-usable : goal.slot_at-a-requires-clause-usable
slot_at-a-requires-clause-usable c = search on_usable

pub free_file-requires-clause-file_at : goal.free_file-requires-clause-file_at
free_file-requires-clause-file_at c = search file_at

pub write_entry-requires : goal.write_entry-requires
write_entry-requires c = search (rules, freed_within)

pub overflow_cast-slot : goal.overflow_cast-slot
overflow_cast-slot c = search (rules, slot_fits)

pub put_record-requires : goal.put_record-requires
put_record-requires c = search (unused_below, c.in_ok-place.was)

pub overflow_cast-result : goal.overflow_cast-result
overflow_cast-result c = search (rules, unused_fits, c.in_ok-place.was)

pub returns : goal.returns
returns c = search (empty_well, c.in_ok-place.was)
