use Rattle.std.proofs.Common.{◌∙◌, sym, arith}
use Rattle.nqs_state.specs.State.{content}
use Rattle.nqs_order.proofs.Walks.{first_on, first_found}
use Rattle.nqs_order.proofs.by_index.first_in.Goals as goal

pub returns-then-is_some : goal.returns-then-is_some
returns-then-is_some c = first_found c.args.index.now c.args.queue.now c.args.now (content c.args.state.now) c.args.line.now c.loop-place.place
    (λ p. (p.0, p.1.now)) c.startable-found.result _ c.at.ensures
    c.startable-found.ensures (sym c.if-is_some.ensures)
    ∙ c.loop-place.invariant.rest

pub loop-place-preserved : goal.loop-place-preserved
loop-place-preserved c = record {
  within = omega arith;
  rest = first_on c.args.index.now c.args.queue.now c.args.now (content c.args.state.now) c.args.line.now c.loop-place.place
      (λ p. (p.0, p.1.now)) c.startable-found.result _ c.at.ensures
      c.startable-found.ensures (sym c.if-is_some.ensures)
      ∙ c.loop-place.invariant.rest;
}
