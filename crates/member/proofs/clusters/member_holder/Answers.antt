-- By the kind that was found.
use Rattle.member.proofs.Laws.Answers.{kind_usable}
use Rattle.member.proofs.Laws.Clusters.{area_there, holder_known, holder_unknown}
use Rattle.member.proofs.clusters.member_holder.Goals as goal

pub holder_told-requires-clause-usable : goal.holder_told-requires-clause-usable
holder_told-requires-clause-usable c = search kind_usable

pub holder_told-requires-clause-k_in_bounds : goal.holder_told-requires-clause-k_in_bounds
holder_told-requires-clause-k_in_bounds c = search area_there

pub returns-in-Some : goal.returns-in-Some
returns-in-Some c = search holder_known

pub returns-in-None : goal.returns-in-None
returns-in-None c = search holder_unknown
