-- The new clusters come behind the file's own.
use Rattle.calls.proofs.Laws.Ready.{on_usable}
use Rattle.putting.proofs.Laws.LongerCode.{end_goes_on}
use Rattle.putting.proofs.longer.grow_chain.Goals as goal

pub needed_for-requires : goal.needed_for-requires
needed_for-requires c = search on_usable

pub add_behind-first-requires-clause-behind : goal.add_behind-first-requires-clause-behind
add_behind-first-requires-clause-behind c = search end_goes_on
