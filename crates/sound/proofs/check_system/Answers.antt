-- What is judged of the kind that was found is the answer.
use Rattle.std.proofs.Common.{◌≡◌, Some, arith}
use Rattle.sound.proofs.Laws.Checks.{area_kind, area_reached, area_judged}
use Rattle.sound.proofs.check_system.Goals as goal

pub judge-requires-clause-usable : goal.judge-requires-clause-usable
judge-requires-clause-usable c =
    let e : c.kind_of_area.result ≡ Some c.in_ok-k.k = grind arith in
    search area_kind

pub judge-requires-clause-k_in_bounds : goal.judge-requires-clause-k_in_bounds
judge-requires-clause-k_in_bounds c =
    let e : c.kind_of_area.result ≡ Some c.in_ok-k.k = grind arith in
    search area_reached

pub returns : goal.returns
returns c =
    let e : c.kind_of_area.result ≡ Some c.in_ok-k.k = grind arith in
    search area_judged
