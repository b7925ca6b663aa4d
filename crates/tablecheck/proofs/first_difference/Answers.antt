use Rattle.std.proofs.Common.{◌∙◌, arith, rules}
use borrow.Author.Tests.{tests}
use Rattle.search.proofs.Laws.Chains.{lowest_from_find}
use Rattle.tablecheck.proofs.Laws.Tables.{end_enough}
use Rattle.tablecheck.proofs.first_difference.Goals as goal

pub returns : goal.returns
returns c =
    lowest_from_find _ c.find.ensures.ran (omega arith) (λ x b q k. search (rules, tests))
    ∙ end_enough _ _ _ _ c.search_end-end.ensures.value c.search_end-end.ensures.within
