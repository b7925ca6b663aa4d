-- The bytes of the pattern and of the name, side by side.
use Rattle.std.proofs.Common.{rules, ℕ, ◌+◌, ◌-◌, take, drop}
use Rattle.std.proofs.lemmas.Iterator.{YieldsList-from_slice, YieldsList-from_zip}
use Rattle.std.proofs.lemmas.Iterator.Search.{all_from_yields_List}
use Rattle.patterns.specs.Patterns.{byte_matches}
use Rattle.patterns.proofs.Laws.Matches.{all_match}
use Rattle.patterns.proofs.matches_at.Goals as goal

pub returns : goal.returns
returns c =
    let name = take (c.args.a + 11 - c.args.a) (drop c.args.a c.args.img.now) in
    all_match _ _ c.args.a _ (search rules) (search rules)
    (all_from_yields_List (λ (b : ℕ × ℕ). byte_matches b.0 b.1) c.all.new.self _ _ c.all.ensures.ran
    (YieldsList-from_zip (YieldsList-from_slice c.args.pattern cc) (YieldsList-from_slice name cc))
    (λ x b q k. (search rules, search rules)))
