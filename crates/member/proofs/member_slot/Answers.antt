-- Each way out is one case of the definition; the slots of an image of a kind lie within it.
use Rattle.member.proofs.Laws.Answers.{not_of_a_kind, kind_usable, no_such_slot, slot_within, slot_told_lem}
use Rattle.std.proofs.Common.{rules}
use Rattle.member.proofs.member_slot.Goals as goal

pub root_entries-requires : goal.root_entries-requires
root_entries-requires c = search (rules, kind_usable)

pub returns-then-root_entries-s : goal.returns-then-root_entries-s
returns-then-root_entries-s c = search no_such_slot

pub slot_at-a-requires : goal.slot_at-a-requires
slot_at-a-requires c = search (rules, kind_usable)

pub standing_at-requires : goal.standing_at-requires
standing_at-requires c = search (rules, slot_within)

pub attr_at-requires : goal.attr_at-requires
attr_at-requires c = search (rules, slot_within)

pub returns : goal.returns
returns c = search slot_told_lem

pub returns-in_default : goal.returns-in_default
returns-in_default c = search not_of_a_kind
