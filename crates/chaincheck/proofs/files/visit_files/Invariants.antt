-- The slots before this one are counted and marked, and none of them is bad.
use Rattle.std.proofs.Common.{◌≡◌}
use lib.ListN.{length}
use Rattle.diskette.specs.Places.{slot_from}
use Rattle.chaincheck.specs.Aids.Visits.{Underway}
use Rattle.chaincheck.proofs.files.visit_files.Given as goal

abbrev pub invariant-loop-s : goal.invariant-loop-s
invariant-loop-s l = (length l.left ≡ length l.initial.left) × Underway l.last l.cb l.img (slot_from l.root) l.count l.initial.marks l.s-counter l.files l.held l.marks l.left
