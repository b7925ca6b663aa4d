-- Zeros, data, and the two heads, in this order.
use Rattle.formatting.proofs.Laws.Format.{blank_made}
use Rattle.formatting.proofs.format.make_blank.Goals as goal

pub returns : goal.returns
returns c = search blank_made
