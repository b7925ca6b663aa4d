-- Only spaces are left out.
use Rattle.std.proofs.Common.{◌≡◌, length}
use Rattle.text.specs.Names.{trimmed}
use Rattle.text.proofs.name.trimmed.Given as goal

abbrev pub invariant-loop-last : goal.invariant-loop-last
invariant-loop-last l = trimmed l.kept ≡ trimmed l.part

abbrev pub decreases-loop-last : goal.decreases-loop-last
decreases-loop-last l = length l.kept
