-- The chain asks the slots in turn.
use Rattle.std.proofs.Common.{refl, rules}
use borrow.Author.Tests.{tests}
use Rattle.search.proofs.Laws.Chains.{lowest_from_find}
use Rattle.member.proofs.clusters.lowest_holder.Goals as goal

pub returns : goal.returns
returns c = lowest_from_find _ c.find.ensures.ran refl (λ x b q k. search (rules, tests))
