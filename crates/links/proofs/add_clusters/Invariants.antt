-- What is added from here on, to the image as it now is, gives the whole, and the first one is kept.
use Rattle.std.proofs.Common.{◌-◌, ◌≡◌, ◌≤◌, get_or}
use Rattle.links.specs.Aids.Linked.{new_clusters, linked_from, first_from}
use Rattle.links.proofs.add_clusters.Given as goal

abbrev pub invariant-loop : goal.invariant-loop
invariant-loop l = record {
  end_in : l.end ≤ l.last;
  from_low : 2 ≤ l.from;
  image : linked_from l.second l.last l.img l.end l.from (l.n - l.counter) ≡ linked_from l.second l.last l.initial.img l.prev 2 l.n;
  answer : first_from l.first l.last l.img l.from (l.n - l.counter) ≡ get_or (new_clusters l.last l.initial.img l.n) 0 0;
}
