-- The chain asks the slots in turn.
use Rattle.std.proofs.Common.{arith, rules}
use borrow.Author.Tests.{tests}
use Rattle.search.proofs.Laws.Chains.{lowest_from_find}
use Rattle.directory.specs.Search.{lowest_vacant}
use Rattle.directory.proofs.lowest_vacant.Goals as goal

pub returns : goal.returns
unfolding lowest_vacant
returns c = lowest_from_find _ c.find.ensures.ran (omega arith) (λ x b q k. search (rules, tests))
