-- Nothing was met before the first slot.
use Rattle.slotcheck.proofs.Laws.Checksums.{none_met}
use Rattle.std.proofs.Common.{rules}
use Rattle.slotcheck.proofs.first_bad.Goals as goal

pub first_bad_by-requires : goal.first_bad_by-requires
first_bad_by-requires c = search (rules, none_met)
