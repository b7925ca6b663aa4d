use Rattle.std.proofs.Common.{arith, rules}
use borrow.Author.Tests.{tests}
use Rattle.chains.specs.Aids.Check.{in_two}
use Rattle.search.proofs.Laws.Chains.{lowest_from_find}
use Rattle.search.proofs.Laws.Flags.{none_found}
use Rattle.chaincheck.proofs.marks.first_in_two.Goals as goal

pub returns-then-none_in_two : goal.returns-then-none_in_two
returns-then-none_in_two c = search none_found

pub returns : goal.returns
unfolding in_two
returns c = lowest_from_find _ c.find.ensures.ran (omega arith) (λ x b q k. search (rules, tests))
