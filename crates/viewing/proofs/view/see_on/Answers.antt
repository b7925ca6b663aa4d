-- Each way out is one row that holds after those that don't.
use Rattle.holding.proofs.Laws.Found.{named_file}
use Rattle.calls.proofs.Laws.Exits.{exits, had}
use Rattle.calls.proofs.Laws.Named.{named, file_named}
use Rattle.viewing.proofs.Laws.View.{see_refused, see_well}
use Rattle.viewing.proofs.view.see_on.Goals as goal

pub returns-in_err-name : goal.returns-in_err-name
returns-in_err-name c = see_refused (exits c.from_residual.ensures.1) (search (named, c.in_err-name.was))

pub returns-in_err-slot : goal.returns-in_err-slot
returns-in_err-slot c = see_refused (exits c.from_residual-in_err-slot.ensures.1) (search (named, c.in_ok-name.was, c.in_err-slot.was))

pub see_file-requires-clause-file : goal.see_file-requires-clause-file
see_file-requires-clause-file c = search (named_file, had, c.in_ok-slot.was)

pub returns : goal.returns
returns c = search (see_well, file_named, c.in_ok-name.was, c.in_ok-slot.was)
