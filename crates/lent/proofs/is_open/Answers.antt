-- The chain asks the places in turn.
use Rattle.std.proofs.Common.{true, false, ◌≡◌, rules}
use Rattle.std.specs.Prelude.{◌&&◌, eqb}
use borrow.Author.Tests.{tests}
use Rattle.std.proofs.lemmas.Iterator.{cases_from_any, YieldsList-from_take, YieldsList-from_slice}
use Rattle.records.specs.Row.{is_open_in}
use Rattle.records.specs.declared.OpenRecord.{OpenRecord}
use Rattle.records.proofs.Laws.Searches.{any_is}
use Rattle.lent.proofs.is_open.Goals as goal

pub returns : goal.returns
unfolding is_open_in
returns c =
    any_is (λ (r : OpenRecord). r.used && eqb r.slot c.args.slot) c.args.row.now _
    (cases_from_any _ _ _ (λ (r : OpenRecord). (r.used && eqb r.slot c.args.slot) ≡ true) (λ (r : OpenRecord). (r.used && eqb r.slot c.args.slot) ≡ false) c.any.ensures.ran (YieldsList-from_take 16 (YieldsList-from_slice c.args.row.now cc) cc)
    (λ x q k. search (rules, tests)) (λ x q k. search (rules, tests)))
