use Rattle.slotcheck.proofs.Laws.Slots.{bad_entry, bad_name_lem}
use Rattle.slotcheck.proofs.Laws.Checksums.{told_bad, told_last}
use Rattle.slotcheck.proofs.is_bad.Goals as goal

pub returns-then-is_bad_entry : goal.returns-then-is_bad_entry
returns-then-is_bad_entry c = search (told_bad, bad_entry)

pub returns-else-is_bad_entry : goal.returns-else-is_bad_entry
returns-else-is_bad_entry c = search (told_last, bad_name_lem)
