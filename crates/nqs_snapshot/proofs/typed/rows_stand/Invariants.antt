use Rattle.std.proofs.Common.{◌≤◌, ◌-◌, length, drop}
use Rattle.std.specs.List.{AllByRecursion}
use Rattle.nqs_snapshot.proofs.typed.rows_stand.Given as goal

-- if the rest stand, all do
abbrev pub invariant-loop-place : goal.invariant-loop-place
invariant-loop-place g l =
    (AllByRecursion g.V.Typed.IsTyped (drop l.place l.table.items) → AllByRecursion g.V.Typed.IsTyped l.table.items) × (l.place ≤ length l.table.items)

abbrev pub decreases-loop-place : goal.decreases-loop-place
decreases-loop-place g l = length l.table.items - l.place
