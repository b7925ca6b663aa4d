-- The call on the place that is free, put there where it was taken.
use Rattle.calls.proofs.Laws.Exits.{exits}
use Rattle.lending.proofs.Laws.OpenThrough.{open_refused, place_fits, open_well}
use Rattle.lending.proofs.open.Goals as goal

pub returns-in_err-place : goal.returns-in_err-place
returns-in_err-place c =
    open_refused c.args.img.now c.args.s.now c.args.access c.args.row.now c.all_fit.ensures.fit c.lowest_unused-free.result c.lowest_unused-free.ensures _ c.open_at.ensures
    _ c.in_err-place.was _ (exits c.from_residual.ensures.1)

pub overflow_cast-result : goal.overflow_cast-result
overflow_cast-result c =
    record {
      fits = place_fits c.args.img.now c.args.s.now c.args.access c.args.row.now c.all_fit.ensures.fit c.lowest_unused-free.result c.lowest_unused-free.ensures _ c.open_at.ensures
          _ _ c.in_ok-place.was;
    }

pub returns : goal.returns
returns c = search (open_well, c.in_ok-place.was, c.all_fit.ensures.fit)
