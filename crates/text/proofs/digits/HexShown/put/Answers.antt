-- Two digits in base 16 are the hex digits.
use Rattle.std.proofs.Common.{rules}
use Rattle.text.specs.Digits.{hex}
use Rattle.text.proofs.digits.HexShown.put.Goals as goal

pub returns : goal.returns
unfolding hex
returns c = search rules
