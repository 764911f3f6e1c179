use Rattle.std.proofs.Common.{◌≡◌, length}
use Rattle.nqs_base.specs.Same.{name_eq}
use Rattle.nqs_rules.specs.InOrder.{are_distinct}
use Rattle.nqs_snapshot.proofs.order_queues.differ.Given as goal

-- those before are none of the later ones
abbrev pub invariant-loop-name : goal.invariant-loop-name
invariant-loop-name l = are_distinct name_eq l.names ≡ are_distinct name_eq l.rest

abbrev pub decreases-loop-name : goal.decreases-loop-name
decreases-loop-name l = length l.rest
