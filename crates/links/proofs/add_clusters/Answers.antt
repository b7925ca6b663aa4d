use Rattle.std.proofs.Common.{◌≡◌, ◌<◌, ◌+◌, ◌-◌, arith, refl}
use Rattle.links.proofs.Laws.Turns.{linked_turn, first_all, first_set, first_kept, added_none, added_end}
use Rattle.links.proofs.add_clusters.Goals as goal
use Rattle.links.proofs.add_clusters.Goals.{then-first-eq0, else-first-eq0}

pub loop-init : goal.loop-init
loop-init c =
    let e : c.args.n - 0 ≡ c.args.n = omega arith in
    record {
      end_in = c.requires.prev_le_last;
      from_low = omega arith;
      image = rw e refl;
      answer = rw e (first_all c.args.last c.args.img.now c.args.n);
    }

pub loop-preserved : goal.loop-preserved
loop-preserved c =
    let i = c.loop.invariant in
    let some : 0 < c.args.n - c.loop.counter = omega arith in
    let left : c.args.n - (c.loop.counter + 1) ≡ c.args.n - c.loop.counter - 1 = omega arith in
    let new = c.in-Some.ensures in
    record {
      end_in = new.is_cluster.1;
      from_low = omega arith;
      image = rw left (linked_turn _ _ _ _ _ _ _ i.image some _ new.value (omega (arith, new.is_cluster.0)) _ c.link_to.ensures);
      answer = elim c.if-first-eq0.branch [
        | then-first-eq0 w ↦ first_set _ _ _ _ _ _ i.answer w.if-first-eq0.true some _ new.value (omega (arith, new.is_cluster.0)) _ w.first-is _ _ _
        | else-first-eq0 w ↦ first_kept _ _ _ _ _ _ i.answer w.if-first-eq0.false _ w.first-is _ _ _
      ];
    }

pub returns-after-loop : goal.returns-after-loop
returns-after-loop c = added_end _ _ _ _ _ _ _ _ _ _ c.loop.invariant.image c.loop.invariant.answer (omega arith)

pub returns-in_default : goal.returns-in_default
returns-in_default c = added_none _ _ _ _ _ _ _ _ _ _ c.loop.invariant.image c.loop.invariant.answer (omega arith) c.in_default.ensures.value
