use Rattle.std.proofs.Common.{arith, rules}
use borrow.Author.Tests.{tests}
use Rattle.search.proofs.Laws.Chains.{none_from_fold}
use Rattle.tablecheck.specs.Aids.Copies.{unlike_at}
use Rattle.tablecheck.proofs.same_bytes.Goals as goal

pub returns : goal.returns
unfolding unlike_at
returns c = none_from_fold (unlike_at c.args.second c.args.img.now) c.fold.ensures.ran (omega arith) (λ b x t q k. search (rules, tests))
