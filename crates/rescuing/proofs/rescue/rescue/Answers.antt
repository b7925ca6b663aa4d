-- An image of no kind is refused by the first row; else the rest is left to the call on that kind.
use Rattle.calls.proofs.Laws.Exits.{exits}
use Rattle.rescuing.proofs.Laws.Rescue.{kind_stops, rescue_refused}
use Rattle.rescuing.proofs.rescue.rescue.Goals as goal

pub returns-in_err-k : goal.returns-in_err-k
returns-in_err-k c = rescue_refused (exits c.from_residual.ensures.1) (search (kind_stops, c.in_err-k.was))
