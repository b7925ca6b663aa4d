-- The chain asks the places in turn.
use Rattle.std.proofs.Common.{arith, rules}
use borrow.Author.Tests.{tests}
use Rattle.search.proofs.Laws.Chains.{found_from_any}
use Rattle.opened.specs.Places.{is_open}
use Rattle.opened.proofs.is_open.Goals as goal

pub returns : goal.returns
unfolding is_open
returns c = found_from_any _ c.any.ensures.ran (omega arith) (λ x b q k. search (rules, tests))
