use Rattle.std.proofs.Common.{◌≡◌, ◌≤◌, ◌-◌, length, drop}
use Rattle.nqs_order.specs.ByIndex.{fewer_in_batch}
use Rattle.nqs_order.proofs.by_index.fewer_in_batch.Given as goal

abbrev pub invariant-loop-place : goal.invariant-loop-place
invariant-loop-place l = record {
  within : l.place ≤ length l.state.queues.items;
  rest : fewer_in_batch l.index l.left (drop l.place l.state.queues.items) ≡ fewer_in_batch l.index l.state.global_limit l.state.queues.items;
}

abbrev pub decreases-loop-place : goal.decreases-loop-place
decreases-loop-place l = length l.state.queues.items - l.place
