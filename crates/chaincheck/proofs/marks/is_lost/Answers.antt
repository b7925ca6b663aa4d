-- The mark and the meaning of the value decide.
use Rattle.chaincheck.proofs.Laws.MarkTurns.{met_before, lost_on, lost_off}
use Rattle.chaincheck.proofs.marks.is_lost.Goals as goal

pub returns-then-marks-c-ne0 : goal.returns-then-marks-c-ne0
returns-then-marks-c-ne0 c = search met_before

pub returns-in-Next : goal.returns-in-Next
returns-in-Next c = search lost_on

pub returns-in_default : goal.returns-in_default
returns-in_default c = search lost_off
