-- What is left of the search answers as the whole does; the flags and the marks say what was met below.
use Rattle.std.proofs.Common.{◌≡◌}
use Rattle.std.proofs.Common.{◌-◌}
use lib.ListN.{length}
use Rattle.search.specs.Search.{lowest}
use Rattle.diskette.specs.Places.{slot_from}
use Rattle.slotcheck.specs.Aids.Slots.{any_below, never_used_slot, label_slot, bad_slot_at}
use Rattle.slotcheck.specs.Aids.Checksums.{NamesMet}
use Rattle.slotcheck.proofs.first_bad_by.Given as goal

abbrev pub invariant-loop-s : goal.invariant-loop-s
invariant-loop-s l = (l.never ≡ any_below (never_used_slot l.img (slot_from l.root)) l.s) × (l.label ≡ any_below (label_slot l.img (slot_from l.root)) l.s) × (lowest (bad_slot_at l.img (slot_from l.root)) l.s (l.count - l.s) ≡ lowest (bad_slot_at l.img (slot_from l.root)) 0 l.count) × (length l.met ≡ length l.initial.met) × NamesMet l.img (slot_from l.root) l.s l.met
