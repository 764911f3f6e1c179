use Rattle.std.proofs.Common.{◌∙◌, arith}
use Rattle.nqs_order.proofs.Walks.{batch_on, batch_over}
use Rattle.nqs_order.proofs.by_index.fewer_in_batch.Goals as goal

pub returns-then-running-left : goal.returns-then-running-left
returns-then-running-left c =
    batch_over c.args.index.now c.args.state.now.queues.items c.loop-place.left c.loop-place.place c.at.result.now c.running_in_batch-running.result
    c.at.ensures c.running_in_batch-running.ensures c.if-running-left.true
    ∙ c.loop-place.invariant.rest

pub loop-place-preserved : goal.loop-place-preserved
loop-place-preserved c = record {
  within = omega arith;
  rest =
      batch_on c.args.index.now c.args.state.now.queues.items c.loop-place.left c.loop-place.place c.at.result.now c.running_in_batch-running.result
      c.at.ensures c.running_in_batch-running.ensures c.if-running-left.false
      ∙ c.loop-place.invariant.rest;
}
