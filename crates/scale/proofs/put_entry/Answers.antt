-- Each way out is one case of the rule.
use Rattle.calls.proofs.Laws.Exits.{exits}
use Rattle.scale.proofs.Laws.Calls.{entry_put, entry_none, entry_refused}
use Rattle.scale.proofs.put_entry.Goals as goal

pub returns-in_err-e : goal.returns-in_err-e
returns-in_err-e c = search (entry_refused, exits c.from_residual.ensures.1, c.in_err-e.was)

pub returns-in-Some : goal.returns-in-Some
returns-in-Some c = search (entry_put, c.in_ok-e.was)

pub returns-in-None : goal.returns-in-None
returns-in-None c = search (entry_none, c.in_ok-e.was)
