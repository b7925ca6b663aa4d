use Rattle.std.proofs.Common.{rules}
use Rattle.text.proofs.Laws.Digits.{width_at}
use Rattle.text.proofs.digits.digit_count.Goals as goal

pub returns : goal.returns
returns c = search (rules, width_at)
