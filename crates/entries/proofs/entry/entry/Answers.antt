-- Each way out is one case of the rule; the slots of an image of a kind lie within it.
use Rattle.calls.proofs.Laws.Exits.{exits}
use Rattle.entries.proofs.Laws.Entry.{kind_usable, not_of_a_kind, out_of_range_lem, slot_within, in_range}
use Rattle.std.proofs.Common.{rules}
use Rattle.entries.proofs.entry.entry.Goals as goal

pub returns-in_err-k : goal.returns-in_err-k
returns-in_err-k c = search (not_of_a_kind, c.in_err-k.was, exits c.from_residual.ensures.1)

pub root_entries-requires : goal.root_entries-requires
root_entries-requires c = search (rules, kind_usable, c.in_ok-k.was)

pub returns-then-root_entries-s : goal.returns-then-root_entries-s
returns-then-root_entries-s c = search (out_of_range_lem, c.in_ok-k.was)

pub slot_at-requires : goal.slot_at-requires
slot_at-requires c = search (rules, kind_usable, c.in_ok-k.was)

pub told_at-requires : goal.told_at-requires
told_at-requires c = search (rules, slot_within, c.in_ok-k.was)

pub returns : goal.returns
returns c = search (in_range, c.in_ok-k.was)
