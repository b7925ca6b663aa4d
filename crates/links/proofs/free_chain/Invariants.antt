-- What is freed from here on, in the image as it now is, is the whole.
use Rattle.std.proofs.Common.{◌-◌, ◌≡◌}
use Rattle.links.specs.Aids.Freed.{freed_from}
use Rattle.links.proofs.free_chain.Given as goal

abbrev pub invariant-loop : goal.invariant-loop
invariant-loop l = freed_from l.second l.last l.img (l.n - l.counter) l.cluster ≡ freed_from l.second l.last l.initial.img l.n l.start
