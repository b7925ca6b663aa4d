-- Each way out is one row that holds after those that don't, or the last rows of a new file or of an existing one.
use Rattle.calls.proofs.Laws.Attribute.{attr_fits}
use Rattle.calls.proofs.Laws.Exits.{exits}
use Rattle.holding.proofs.Laws.Found.{named_file}
use Rattle.calls.proofs.Laws.Rows.{tests}
use Rattle.calls.proofs.Laws.Stamps.{stamped}
use Rattle.calls.proofs.Laws.Named.{named}
use Rattle.creating.proofs.Laws.Create.{create_refused, create_new, create_old}
use Rattle.std.proofs.Common.{rules, refl}
use Rattle.creating.proofs.create.create_on.Goals as goal

ruleset rows = (named, stamped, tests)

pub returns-in_err-name : goal.returns-in_err-name
returns-in_err-name c = create_refused (exits c.from_residual.ensures.1) (search (rows, c.in_err-name.was))

pub returns-in_err-time : goal.returns-in_err-time
returns-in_err-time c = create_refused (exits c.from_residual-in_err-time.ensures.1) (search (rows, c.in_ok-name.was, c.in_err-time.was))

pub returns-then-is_bad_attr : goal.returns-then-is_bad_attr
returns-then-is_bad_attr c = create_refused refl (search (rows, c.in_ok-name.was, c.in_ok-time.was) depth 8)

pub overflow_cast-attr : goal.overflow_cast-attr
overflow_cast-attr c = search (rules, attr_fits)

pub empty_old-requires-clause-file : goal.empty_old-requires-clause-file
empty_old-requires-clause-file c = search named_file

pub returns-in-None : goal.returns-in-None
returns-in-None c = search (create_new, c.in_ok-name.was, c.in_ok-time.was)

pub returns-in-Some : goal.returns-in-Some
returns-in-Some c = search (create_old, c.in_ok-name.was, c.in_ok-time.was)
