-- A file's chain decides; nothing else holds a cluster.
use Rattle.member.proofs.Laws.Clusters.{holds_file_lem, holds_nothing}
use Rattle.member.proofs.clusters.holds_at.Goals as goal

pub returns-then-plain_at : goal.returns-then-plain_at
returns-then-plain_at c = search holds_file_lem

pub returns-else-plain_at : goal.returns-else-plain_at
returns-else-plain_at c = search holds_nothing
