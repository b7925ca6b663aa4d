-- Each arm is one case of the rule.
use Rattle.scale.proofs.Laws.Calls.{sound_leaves, finding_leaves}
use Rattle.scale.proofs.Laws.Fits.{number_fits, place_fits}
use Rattle.scale.proofs.tell_verdict.Goals as goal

pub overflow_cast-number : goal.overflow_cast-number
overflow_cast-number c = search number_fits

pub overflow_cast-place : goal.overflow_cast-place
overflow_cast-place c = search place_fits

pub returns-in-Ok : goal.returns-in-Ok
returns-in-Ok c = search sound_leaves

pub returns-in-Err : goal.returns-in-Err
returns-in-Err c = search finding_leaves
