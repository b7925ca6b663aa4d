use Rattle.std.proofs.Common.{rules}
use Rattle.text.proofs.Laws.Digits.{adds_digits}
use Rattle.text.proofs.page.Page.put_digits.Goals as goal

pub returns : goal.returns
returns c = search (rules, adds_digits)
