use Rattle.std.proofs.Common.{arith, add_assoc}
use Rattle.image.specs.Numbers.{number}
use Rattle.image.proofs.get32.Goals as goal

pub returns : goal.returns
unfolding number
returns c = simp add_assoc (omega arith)
