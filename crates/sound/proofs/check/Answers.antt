-- What is judged of the kind that was found is the answer.
use Rattle.std.proofs.Common.{◌≡◌, Some, arith}
use Rattle.sound.proofs.Laws.Checks.{image_kind, image_area, image_judged}
use Rattle.sound.proofs.check.Goals as goal

pub judge-requires-clause-usable : goal.judge-requires-clause-usable
judge-requires-clause-usable c =
    let e : c.kind_of_image.result ≡ Some c.in_ok-k.k = grind arith in
    search image_kind

pub judge-requires-clause-k_in_bounds : goal.judge-requires-clause-k_in_bounds
judge-requires-clause-k_in_bounds c =
    let e : c.kind_of_image.result ≡ Some c.in_ok-k.k = grind arith in
    search image_area

pub returns : goal.returns
returns c =
    let e : c.kind_of_image.result ≡ Some c.in_ok-k.k = grind arith in
    search image_judged
