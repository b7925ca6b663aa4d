-- The chain asks the places in turn.
use Rattle.std.proofs.Common.{not, true, false, ◌≡◌, rules}
use borrow.Author.Tests.{tests}
use Rattle.std.proofs.lemmas.Iterator.{IsFirst-from_position, YieldsList-from_take, YieldsList-from_slice}
use Rattle.records.specs.Row.{lowest_unused_in}
use Rattle.records.specs.declared.OpenRecord.{OpenRecord}
use Rattle.records.proofs.Laws.Searches.{first_is}
use Rattle.lent.proofs.lowest_unused.Goals as goal

pub returns : goal.returns
unfolding lowest_unused_in
returns c =
    first_is (λ (r : OpenRecord). not r.used) c.args.row.now _
    (IsFirst-from_position _ _ _ (λ (r : OpenRecord). not r.used ≡ true) (λ (r : OpenRecord). not r.used ≡ false) c.position.ensures.ran (YieldsList-from_take 16 (YieldsList-from_slice c.args.row.now cc) cc)
    (λ x q k. search (rules, tests)) (λ x q k. search (rules, tests)))
