use Rattle.std.proofs.Common.{rules}
use Rattle.contents.specs.Aids.Loops.{run_of}
use Rattle.contents.proofs.run_of.Goals as goal

pub returns : goal.returns
unfolding run_of
returns c = search rules
