use Rattle.std.proofs.Common.{arith, refl}
use Rattle.walks.proofs.Laws.Tails.{store_from, store_to, store_at, store_inside, store_on, store_turn, store_end}
use Rattle.walks.proofs.chain.store_left.Goals as goal

pub offset_bounds-left-c : goal.offset_bounds-left-c
offset_bounds-left-c c = store_at _ _ _ _ c.args.known c.loop-rest.invariant.leads (omega arith) c.requires.last_bound

pub bounds-left-c : goal.bounds-left-c
bounds-left-c c = store_inside _ _ _ _ c.args.known c.loop-rest.invariant.leads (omega arith) _ _ c.loop-rest.auto.left c.requires.last_in_bounds_2

pub value_of-requires-clause-le_c : goal.value_of-requires-clause-le_c
value_of-requires-clause-le_c c = (store_from _ _ _ _ c.args.known c.loop-rest.invariant.leads (omega arith), store_to _ _ _ _ c.args.known c.loop-rest.invariant.leads (omega arith))

pub loop-rest-preserved : goal.loop-rest-preserved
loop-rest-preserved c =
    let i = c.loop-rest.invariant in
    rw c.from-c.ensures (record {
      above = omega arith;
      leads = store_on _ _ _ _ c.args.known i.leads (omega arith) _ c.value_of.ensures;
      stored = store_turn _ _ _ _ _ _ _ i.stored _ _ (omega arith) refl c.value_of.ensures;
    })

pub returns : goal.returns
returns c = store_end _ _ _ _ _ _ _ c.loop-rest.invariant.stored (omega arith)
