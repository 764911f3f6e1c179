use Rattle.std.proofs.Common.{◌≡◌, length}
use Rattle.nqs_order.specs.ByIndex.{fewer_run}
use Rattle.nqs_order.proofs.by_index.fewer_run.Given as goal

abbrev pub invariant-loop-queue : goal.invariant-loop-queue
invariant-loop-queue l = fewer_run l.index l.left l.rest ≡ fewer_run l.index l.limit l.queues

abbrev pub decreases-loop-queue : goal.decreases-loop-queue
decreases-loop-queue l = length l.rest
