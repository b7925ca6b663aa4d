-- A method above 2, or what the sum is.
use Rattle.calls.proofs.Laws.Exits.{exits}
use Rattle.records.proofs.Laws.Seek.{sought_method, sought_by}
use Rattle.lent.proofs.sought.Goals as goal

pub returns-in_err-try_from : goal.returns-in_err-try_from
returns-in_err-try_from c = search (sought_method, exits c.from_residual.ensures.1, c.in_err-try_from.ensures)

pub returns : goal.returns
returns c = search (sought_by, c.in_ok-try_from.ensures)
