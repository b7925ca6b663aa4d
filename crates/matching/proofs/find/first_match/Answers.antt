-- The chain asks the slots in turn; each stands within the image.
use Rattle.std.proofs.Common.{◌<◌, ◌≤◌, arith, rules}
use Rattle.std.proofs.lemmas.Iterator.{serves_from_Range}
use borrow.Author.Tests.{tests}
use Rattle.diskette.specs.Aids.Usable.{Usable}
use Rattle.diskette.specs.Places.{root_entries}
use Rattle.search.proofs.Laws.Chains.{lowest_from_find}
use Rattle.calls.proofs.Laws.Ready.{on_usable}
use Rattle.calls.proofs.Laws.Files.{slots_within}
use Rattle.matching.specs.Find.{match_from}
use Rattle.matching.proofs.find.first_match.Goals as goal

pub root_entries-requires : goal.root_entries-requires
root_entries-requires c = search on_usable

pub find-requires-clause-callable : goal.find-requires-clause-callable
find-requires-clause-callable c =
    let k = c.args.k in
    let usable : Usable k = search on_usable in
    serves_from_Range (λ x q k. search rules)
    (λ x g h slot is.
    let low : slot.now < root_entries k = omega arith in
    let within = slots_within c.args.img.now k c.requires slot.now low in
    let most : Usable k × (slot.now ≤ root_entries k) = (usable, omega arith) in
    (search most, search (rules, within)))

pub returns : goal.returns
unfolding match_from
returns c = lowest_from_find _ c.find.ensures.ran (omega arith) (λ x b q k. search (rules, tests))
