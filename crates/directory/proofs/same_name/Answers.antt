use Rattle.std.proofs.Common.{rules}
use Rattle.directory.proofs.Laws.Names.{same_in_place}
use Rattle.directory.proofs.same_name.Goals as goal

pub returns : goal.returns
returns c = same_in_place _ _ _ c.requires (search rules) _ c.eq.ensures
