-- Figures are below ten, letters from ten on.
use Rattle.text.proofs.Laws.Digits.{sign_figure, sign_letter}
use Rattle.text.proofs.digits.sign.Goals as goal

pub returns-then-small-lt10 : goal.returns-then-small-lt10
returns-then-small-lt10 c = search sign_figure

pub returns-else-small-lt10 : goal.returns-else-small-lt10
returns-else-small-lt10 c = search sign_letter
