use Rattle.std.proofs.Common.{length}
use Rattle.std.specs.List.{AllByRecursion}
use Rattle.nqs_host_laws.specs.Offers.{HasNumber}
use Rattle.nqs_host_laws.proofs.values.hands_stand.Given as goal

-- if the rest have numbers, all have
abbrev pub invariant-loop-hand : goal.invariant-loop-hand
invariant-loop-hand l = AllByRecursion HasNumber l.rest → AllByRecursion HasNumber l.hands

abbrev pub decreases-loop-hand : goal.decreases-loop-hand
decreases-loop-hand l = length l.rest
