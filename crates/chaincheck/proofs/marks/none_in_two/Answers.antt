use Rattle.std.proofs.Common.{arith, rules}
use borrow.Author.Tests.{tests}
use Rattle.chains.specs.Aids.Check.{in_two}
use Rattle.search.proofs.Laws.Chains.{none_from_fold}
use Rattle.chaincheck.proofs.marks.none_in_two.Goals as goal

pub returns : goal.returns
unfolding in_two
returns c = none_from_fold (in_two c.args.marks.now) c.fold.ensures.ran (omega arith) (λ b x t q k. search (rules, tests))
