-- The chain asks the places in turn.
use Rattle.std.proofs.Common.{arith, rules}
use borrow.Author.Tests.{tests}
use Rattle.search.proofs.Laws.Chains.{lowest_from_find}
use Rattle.opened.specs.Places.{lowest_unused}
use Rattle.opened.proofs.lowest_unused.Goals as goal

pub returns : goal.returns
unfolding lowest_unused
returns c = lowest_from_find _ c.find.ensures.ran (omega arith) (λ x b q k. search (rules, tests))
