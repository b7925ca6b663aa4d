use Rattle.std.proofs.Common.{eqb, rules, tests, ◌∙◌}
use Rattle.std.proofs.lemmas.Iterator.{YieldsList-from_slice}
use Rattle.std.proofs.lemmas.Iterator.Search.{all_from_yields_List}
use Rattle.names.specs.Spelling.{space}
use Rattle.text.proofs.Laws.Names.{spaces_all}
use Rattle.text.proofs.name.only_spaces.Goals as goal

pub returns : goal.returns
returns c = all_from_yields_List (λ b. eqb b space) _ _ _ c.all.ensures.ran (YieldsList-from_slice c.args.part.now cc) (λ x b q k. search (rules, tests)) ∙ spaces_all c.args.part.now
