-- By the cluster's number, and then by its value.
use Rattle.member.proofs.Laws.Clusters.{cluster_outside, cluster_told_lem}
use Rattle.member.proofs.clusters.value_told.Goals as goal

pub returns-then-c-lt2 : goal.returns-then-c-lt2
returns-then-c-lt2 c = search cluster_outside

pub returns : goal.returns
returns c = search cluster_told_lem
