use Rattle.std.proofs.Common.{length}
use Rattle.std.specs.List.{AllByRecursion}
use Rattle.nqs_snapshot.proofs.typed.each_stands.Given as goal

-- if the rest stand, all do
abbrev pub invariant-loop-item : goal.invariant-loop-item
invariant-loop-item g l = AllByRecursion g.T.Typed.IsTyped l.rest → AllByRecursion g.T.Typed.IsTyped l.items

abbrev pub decreases-loop-item : goal.decreases-loop-item
decreases-loop-item g l = length l.rest
