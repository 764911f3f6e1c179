use Rattle.std.proofs.Common.{◌≡◌, length}
use Rattle.nqs_rules.specs.InOrder.{ascends_from}
use Rattle.nqs_snapshot.proofs.order.ascends_from.Given as goal

-- those before ascend
abbrev pub invariant-loop-number : goal.invariant-loop-number
invariant-loop-number l = ascends_from l.last l.rest ≡ ascends_from l.floor l.closed

abbrev pub decreases-loop-number : goal.decreases-loop-number
decreases-loop-number l = length l.rest
