use Rattle.std.proofs.Common.{◌∙◌, arith}
use Rattle.nqs_state.specs.State.{content}
use Rattle.nqs_order.proofs.Walks.{among_on}
use Rattle.nqs_order.proofs.by_index.first_among.Goals as goal

pub loop-place-preserved : goal.loop-place-preserved
loop-place-preserved g c = record {
  within = omega arith;
  rest =
      among_on c.args.index.now c.args.queue.now c.args.now (content c.args.state.now) c.args.any_open c.args.classes.now.items c.loop-place.place
      c.at.result.now
      c.at.ensures _ _ c.better_of-best.ensures.best
      ∙ c.loop-place.invariant.rest;
  rises =
      let a = c.loop-place.invariant.rises in
      let b = c.better_of-best.ensures.rises in
      omega (arith, a, b);
  cost =
      let a = c.loop-place.invariant.cost in
      let b = c.better_of-best.ensures.cost in
      omega (arith, a, b);
}

pub returns-clause-cost : goal.returns-clause-cost
returns-clause-cost g c =
    let i = c.loop-place.invariant in
    let a = i.cost in
    let b = i.within in
    omega (arith, a, b)
