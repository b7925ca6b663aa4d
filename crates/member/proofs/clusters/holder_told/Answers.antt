-- What was found, as a number.
use Rattle.member.proofs.Laws.Clusters.{holder_fits, holder_found, holder_none}
use Rattle.std.proofs.Common.{rules}
use Rattle.member.proofs.clusters.holder_told.Goals as goal

pub overflow_add-result : goal.overflow_add-result
overflow_add-result c = search (rules, holder_fits)

pub returns-in-Some : goal.returns-in-Some
returns-in-Some c = search holder_found

pub returns-in-None : goal.returns-in-None
returns-in-None c = search holder_none
