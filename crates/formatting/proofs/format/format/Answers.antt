-- Each way out is one case of the rule.
use Rattle.std.proofs.Common.{arith, rules}
use Rattle.diskette.specs.Aids.Usable.{Usable}
use Rattle.calls.proofs.Laws.Exits.{exits}
use Rattle.formatting.proofs.Laws.Format.{no_such_kind, kind_usable, wrong_length, made_blank}
use Rattle.formatting.proofs.format.format.Goals as goal

pub returns-in_err-k : goal.returns-in_err-k
returns-in_err-k c = search (no_such_kind, c.in_err-k.was, exits c.from_residual.ensures.1)

pub overflow_mul-k : goal.overflow_mul-k
overflow_mul-k c = let u : Usable c.in_ok-k.k = search (kind_usable, c.in_ok-k.was) in omega arith

pub returns-then-img-k : goal.returns-then-img-k
returns-then-img-k c = search (wrong_length, c.in_ok-k.was)

pub make_blank-requires : goal.make_blank-requires
make_blank-requires c = search (rules, kind_usable, c.in_ok-k.was)

pub returns : goal.returns
returns c = search (made_blank, c.in_ok-k.was)
