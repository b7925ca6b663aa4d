use Rattle.member.proofs.Laws.Clusters.{comes_outside, comes_here, comes_on, comes_spent}
use Rattle.std.proofs.Common.{rules}
use Rattle.member.proofs.clusters.comes_to.Goals as goal

pub returns-then-v-lt2 : goal.returns-then-v-lt2
returns-then-v-lt2 c = search comes_outside

pub returns-then-v-c : goal.returns-then-v-c
returns-then-v-c c = search comes_here

pub loop-preserved : goal.loop-preserved
loop-preserved c = search (rules, comes_on)

pub returns : goal.returns
returns c = search comes_spent
