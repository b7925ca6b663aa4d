-- The closure gives the first part's bytes, and then the second's.
use Rattle.std.proofs.Common.{rules, refl}
use Rattle.names.proofs.Laws.Code.{made_eleven}
use Rattle.names.proofs.eleven_bytes.Goals as goal

pub returns : goal.returns
returns c =
    made_eleven _ _ _ _ (λ i y q k. (search rules, search rules)) c.args.base.now.filler c.args.ext.now.filler c.args.base.now.core.now c.args.ext.now.core.now refl
    c.requires.base c.requires.ext c.from_fn.ensures.items
