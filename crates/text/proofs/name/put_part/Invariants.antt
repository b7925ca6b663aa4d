-- The bytes of the part so far are put.
use Rattle.std.proofs.Common.{map, take}
use Rattle.text.specs.Aids.Pages.{AddsIn}
use Rattle.text.specs.Names.{shown}
use Rattle.text.proofs.name.put_part.Given as goal

abbrev pub invariant-loop-c : goal.invariant-loop-c
invariant-loop-c l = AddsIn l.c-index (map shown (take l.c-index l.kept)) l.initial.page l.page
