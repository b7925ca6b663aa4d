-- A number of 64 bits has at most 20 digits.
use Rattle.std.proofs.Common.{rules}
use Rattle.text.proofs.Laws.Digits.{decimal_fits, adds_decimal}
use Rattle.text.proofs.digits.UsizeShown.put.Goals as goal

pub put_digits-requires-clause-room : goal.put_digits-requires-clause-room
put_digits-requires-clause-room c = search (rules, decimal_fits)

pub returns : goal.returns
returns c = search (rules, adds_decimal)
