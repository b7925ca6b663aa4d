-- Each way out is one case of the rule.
use Rattle.calls.proofs.Laws.Exits.{exits}
use Rattle.scale.proofs.Laws.Calls.{space_put, space_refused}
use Rattle.scale.proofs.Laws.Fits.{free_fits}
use Rattle.scale.proofs.put_space.Goals as goal

pub returns-in_err-space : goal.returns-in_err-space
returns-in_err-space c = search (space_refused, exits c.from_residual.ensures.1, c.in_err-space.was)

pub overflow_cast-result : goal.overflow_cast-result
overflow_cast-result c = search (free_fits, c.in_ok-space.was)

pub returns : goal.returns
returns c = search (space_put, c.in_ok-space.was)
