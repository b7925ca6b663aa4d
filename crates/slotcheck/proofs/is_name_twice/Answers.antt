-- Only a plain file has a name; a mark that is not set decides, and else the search below it.
use Rattle.slotcheck.proofs.Laws.Checksums.{told_other, told_new, told_met, row_within}
use Rattle.slotcheck.proofs.is_name_twice.Goals as goal

pub returns-then-not-plain_at : goal.returns-then-not-plain_at
returns-then-not-plain_at c = search told_other

pub returns-then-not-met-sum : goal.returns-then-not-met-sum
returns-then-not-met-sum c = search (told_new, row_within)

pub returns : goal.returns
returns c = search (told_met, row_within)
