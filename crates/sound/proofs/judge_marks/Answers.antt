-- Each search decides one finding.
use Rattle.sound.proofs.Laws.Judged.{marks_two, marks_lost, marks_fine}
use Rattle.sound.proofs.judge_marks.Goals as goal

pub returns-in-Some : goal.returns-in-Some
returns-in-Some c = search marks_two

pub returns-in-Some-first_lost : goal.returns-in-Some-first_lost
returns-in-Some-first_lost c = search marks_lost

pub returns : goal.returns
returns c = search marks_fine
