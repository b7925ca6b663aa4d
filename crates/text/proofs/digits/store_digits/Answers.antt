use Rattle.std.proofs.Common.{rules}
use lib.ListN.{length-set}
use Rattle.text.proofs.Laws.Digits.{below_base, digits_turn, digits_done}
use Rattle.text.proofs.digits.store_digits.Goals as goal

pub sign-requires : goal.sign-requires
sign-requires c = search below_base

pub loop-i-preserved : goal.loop-i-preserved
loop-i-preserved c = search (rules, digits_turn, length-set)

pub returns : goal.returns
returns c = search (rules, digits_done)
