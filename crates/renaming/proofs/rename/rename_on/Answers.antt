-- Each way out is one row that holds after those that don't.
use Rattle.std.proofs.Common.{false, ◌≡◌, refl}
use Rattle.calls.proofs.Laws.Exits.{exits}
use Rattle.calls.specs.Refusals.{bad_name}
use Rattle.calls.proofs.Laws.Rows.{tests}
use Rattle.calls.proofs.Laws.Named.{FileNamed, named, file_named, found_below}
use Rattle.renaming.proofs.Laws.Rename.{rename_refused, rename_well, last_stops, new_good, is_taken}
use Rattle.renaming.proofs.rename.rename_on.Goals.{then-is_open-via-then-is_open, then-is_open-via-else-is_open+then-is_read_only, then-is_open-via-else-is_open+else-is_read_only+then-is_taken}
use Rattle.renaming.proofs.rename.rename_on.Goals as goal

pub returns-in_err-name : goal.returns-in_err-name
returns-in_err-name c = rename_refused (exits c.from_residual.ensures.1) (search (named, c.in_err-name.was))

pub returns-in_err-new_name : goal.returns-in_err-new_name
returns-in_err-new_name c = rename_refused (exits c.from_residual-in_err-new_name.ensures.1) (search (named, c.in_ok-name.was, c.in_err-new_name.was))

pub returns-in_err-slot : goal.returns-in_err-slot
returns-in_err-slot c = rename_refused (exits c.from_residual-in_err-slot.ensures.1) (search (named, c.in_ok-name.was, c.in_ok-new_name.was, c.in_err-slot.was))

pub is_read_only-requires-clause-slot_bound : goal.is_read_only-requires-clause-slot_bound
is_read_only-requires-clause-slot_bound c = search (found_below, c.in_ok-name.was, c.in_ok-slot.was)

pub returns-then-is_open : goal.returns-then-is_open
returns-then-is_open c =
    let file : FileNamed c.args.img.now c.args.s.now c.in_ok-slot.slot = search (file_named, c.in_ok-name.was, c.in_ok-slot.was) in
    let new : bad_name c.args.n.now ≡ false = search (new_good, c.in_ok-new_name.was) in
    rename_refused refl
    (last_stops _ _ file new
    (elim c.then-is_open.branch [
      | then-is_open-via-then-is_open w ↦ search tests
      | then-is_open-via-else-is_open+then-is_read_only w ↦ search tests
      | then-is_open-via-else-is_open+else-is_read_only+then-is_taken w ↦ search (tests, is_taken, c.in_ok-new_name.was)
    ]))

pub put_name_in-requires-clause-slot_bound : goal.put_name_in-requires-clause-slot_bound
put_name_in-requires-clause-slot_bound c = search (found_below, c.in_ok-name.was, c.in_ok-slot.was)

pub returns : goal.returns
returns c = search (rename_well, file_named, c.in_ok-name.was, c.in_ok-new_name.was, c.in_ok-slot.was)
