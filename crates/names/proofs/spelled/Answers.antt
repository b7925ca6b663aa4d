-- The name is made only of parts that fit.
use Rattle.std.proofs.Common.{rules}
use Rattle.names.specs.Aids.Reading.{bytes_by}
use Rattle.names.proofs.Laws.Code.{base_refused, ext_refused, answered}
use Rattle.names.proofs.spelled.Goals as goal

pub returns-in_err-base : goal.returns-in_err-base
returns-in_err-base g c =
    base_refused _ (bytes_by g.R.Rule.core g.R.Rule.filler) _ _ _ c.parts.ensures.base c.parts.ensures.ext _ c.in_err-base.ensures.fits c.from_residual.ensures

pub returns-in_err-ext : goal.returns-in_err-ext
returns-in_err-ext g c =
    ext_refused _ (bytes_by g.R.Rule.core g.R.Rule.filler) _ _ _ c.parts.ensures.base c.parts.ensures.ext c.in_ok-base.ensures.fits _
    c.in_err-ext.ensures.fits c.from_residual-in_err-ext.ensures

pub returns : goal.returns
returns g c =
    answered _ (bytes_by g.R.Rule.core g.R.Rule.filler) _ _ _ c.parts.ensures.base c.parts.ensures.ext c.in_ok-base.ensures.fits _ c.in_ok-ext.ensures.fits
    (search rules)
