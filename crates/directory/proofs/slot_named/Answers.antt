-- The chain asks the slots in turn.
use Rattle.std.proofs.Common.{arith, rules}
use borrow.Author.Tests.{tests}
use Rattle.search.proofs.Laws.Chains.{lowest_from_find}
use Rattle.directory.specs.Search.{slot_named}
use Rattle.directory.proofs.slot_named.Goals as goal

pub returns : goal.returns
unfolding slot_named
returns c = lowest_from_find _ c.find.ensures.ran (omega arith) (λ x b q k. search (rules, tests))
