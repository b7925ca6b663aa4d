-- The first of the clusters from here on whose entry is 0 is the lowest free one.
use Rattle.std.proofs.Common.{◌≡◌, ◌≢◌, rules, tests}
use Rattle.std.proofs.lemmas.Iterator.{first_from_Range}
use Rattle.table.specs.Entries.{entry_of}
use Rattle.links.proofs.Laws.Turns.{next_found}
use Rattle.links.proofs.next_free.Goals as goal

pub returns-clause-value : goal.returns-clause-value
returns-clause-value c =
    let l = c.args.img.now in
    next_found _ _ _ _ c.requires.le_from (first_from_Range _ _ _ _ (λ x. entry_of l x ≡ 0) (λ x. entry_of l x ≢ 0) c.find.ensures.ran (λ x q k. search (rules, tests)) (λ x q k. search (rules, tests)))
