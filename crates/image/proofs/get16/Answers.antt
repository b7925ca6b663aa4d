use Rattle.std.proofs.Common.{arith}
use Rattle.image.specs.Numbers.{number}
use Rattle.image.proofs.get16.Goals as goal

pub returns : goal.returns
unfolding number
returns c = omega arith
