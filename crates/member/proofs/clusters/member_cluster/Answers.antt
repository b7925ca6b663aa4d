-- By the kind that was found.
use Rattle.member.proofs.Laws.Answers.{kind_usable}
use Rattle.member.proofs.Laws.Clusters.{area_there, cluster_known, cluster_unknown}
use Rattle.member.proofs.clusters.member_cluster.Goals as goal

pub value_told-requires-clause-usable : goal.value_told-requires-clause-usable
value_told-requires-clause-usable c = search kind_usable

pub value_told-requires-clause-k_in_bounds : goal.value_told-requires-clause-k_in_bounds
value_told-requires-clause-k_in_bounds c = search area_there

pub returns-in-Some : goal.returns-in-Some
returns-in-Some c = search cluster_known

pub returns-in-None : goal.returns-in-None
returns-in-None c = search cluster_unknown
