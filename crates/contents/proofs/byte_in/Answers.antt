-- The cluster lies below the largest number, and so does each of its bytes.
use Rattle.chains.specs.Content.{cluster_begin}
use Rattle.contents.proofs.Laws.Leaves.{steps_fit, start_fits, place_fits}
use Rattle.std.proofs.Common.{rules}
use Rattle.contents.proofs.byte_in.Goals as goal

pub overflow_mul-result : goal.overflow_mul-result
overflow_mul-result c = search steps_fit

pub overflow_add-result : goal.overflow_add-result
overflow_add-result c = search start_fits

pub overflow_add-result-2 : goal.overflow_add-result-2
overflow_add-result-2 c = search place_fits

pub returns : goal.returns
unfolding cluster_begin
returns c = search rules
