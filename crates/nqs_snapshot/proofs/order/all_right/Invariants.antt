use Rattle.std.proofs.Common.{◌≡◌, ◌≤◌, ◌-◌, length, drop}
use Rattle.std.specs.List.{AllByRecursion, list_all}
use Rattle.nqs_state.specs.State.{content}
use Rattle.nqs_snapshot.proofs.order.all_right.Given as goal

-- those before are right
abbrev pub invariant-loop-place : goal.invariant-loop-place
invariant-loop-place g l =
    (list_all (g.V.Right.right (content l.state)) (drop l.place l.table.items) ≡ list_all (g.V.Right.right (content l.state)) l.table.items)
    × AllByRecursion g.V.Put.IsPut (drop l.place l.table.items) × (l.place ≤ length l.table.items)

abbrev pub decreases-loop-place : goal.decreases-loop-place
decreases-loop-place g l = length l.table.items - l.place
