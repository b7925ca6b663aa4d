-- Each way out is one row that holds after those that don't.
use Rattle.std.proofs.Common.{refl}
use Rattle.holding.proofs.Laws.Found.{named_file}
use Rattle.calls.proofs.Laws.Exits.{exits, had}
use Rattle.calls.proofs.Laws.Rows.{tests}
use Rattle.calls.proofs.Laws.Named.{FileNamed, named, file_named, found_below}
use Rattle.deleting.proofs.Laws.Delete.{delete_refused, delete_well, last_stops}
use Rattle.deleting.proofs.delete.delete_on.Goals.{then-is_open-via-then-is_open, then-is_open-via-else-is_open+then-is_read_only}
use Rattle.deleting.proofs.delete.delete_on.Goals as goal

pub returns-in_err-name : goal.returns-in_err-name
returns-in_err-name c = delete_refused (exits c.from_residual.ensures.1) (search (named, c.in_err-name.was))

pub returns-in_err-slot : goal.returns-in_err-slot
returns-in_err-slot c = delete_refused (exits c.from_residual-in_err-slot.ensures.1) (search (named, c.in_ok-name.was, c.in_err-slot.was))

pub is_read_only-requires-clause-slot_bound : goal.is_read_only-requires-clause-slot_bound
is_read_only-requires-clause-slot_bound c = search (found_below, c.in_ok-name.was, c.in_ok-slot.was)

pub returns-then-is_open : goal.returns-then-is_open
returns-then-is_open c =
    let file : FileNamed c.args.img.now c.args.s.now c.in_ok-slot.slot = search (file_named, c.in_ok-name.was, c.in_ok-slot.was) in
    delete_refused refl
    (last_stops _ file
    (elim c.then-is_open.branch [
      | then-is_open-via-then-is_open w ↦ search tests
      | then-is_open-via-else-is_open+then-is_read_only w ↦ search tests
    ]))

pub erase_in-requires-clause-file : goal.erase_in-requires-clause-file
erase_in-requires-clause-file c = search (named_file, had, c.in_ok-slot.was)

pub returns : goal.returns
returns c = search (delete_well, file_named, c.in_ok-name.was, c.in_ok-slot.was)
