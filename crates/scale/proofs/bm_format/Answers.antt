-- The number that format answers, packed, and the image that it leaves.
use Rattle.std.proofs.Common.{rules}
use Rattle.scale.proofs.Laws.Calls.{format_leaves}
use Rattle.scale.proofs.bm_format.Goals as goal

pub returns : goal.returns
returns c = format_leaves _ (λ x v h. search rules) _ _ _ _ c.format.ensures _ c.map.ensures.cases _ c.hand.ensures
