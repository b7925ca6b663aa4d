-- Each way out is one row that holds after those that don't.
use Rattle.calls.proofs.Laws.Exits.{exits}
use Rattle.matching.proofs.Laws.Find.{find_refused, find_well, match_fits, rows}
use Rattle.std.proofs.Common.{rules}
use Rattle.matching.proofs.find.find_on.Goals as goal

pub returns-in_err-pattern : goal.returns-in_err-pattern
returns-in_err-pattern c = find_refused (exits c.from_residual.ensures.1) (search (rows, c.in_err-pattern.was))

pub returns-in_err-found : goal.returns-in_err-found
returns-in_err-found c = find_refused (exits c.from_residual-in_err-found.ensures.1) (search (rows, c.in_ok-pattern.was, c.in_err-found.was))

pub overflow_cast-result : goal.overflow_cast-result
overflow_cast-result c = search (rules, match_fits, c.in_ok-pattern.was, c.in_ok-found.was)

pub returns : goal.returns
returns c = search (find_well, c.in_ok-pattern.was, c.in_ok-found.was)
