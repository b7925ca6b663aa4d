-- The records before this one fit.
use Rattle.std.proofs.Common.{ℕ, ◌<◌, get_or}
use Rattle.records.specs.Row.{unused}
use Rattle.lending.specs.Aids.Fits.{FitsIn}
use Rattle.lending.proofs.all_fit.Given as goal

abbrev pub invariant-loop-held : goal.invariant-loop-held
invariant-loop-held l = (i : ℕ) → i < l.held-index → FitsIn (get_or l.row i unused)
