use Rattle.std.proofs.Common.{◌≡◌, ◌≤◌, ◌-◌, ◌++◌, length, drop}
use Rattle.std.specs.Prelude.{flat_map}
use Rattle.std.specs.List.{AllByRecursion}
use Rattle.nqs_snapshot.proofs.field.put_rows.Given as goal

-- what is there and the rest are the whole
abbrev pub invariant-loop-place : goal.invariant-loop-place
invariant-loop-place g l =
    (l.fn.out.items ++ flat_map g.V.Put.field l.table.items ≡ l.out.items ++ flat_map g.V.Put.field (drop l.place l.table.items))
    × AllByRecursion g.V.Put.IsPut (drop l.place l.table.items) × (l.place ≤ length l.table.items)

abbrev pub decreases-loop-place : goal.decreases-loop-place
decreases-loop-place g l = length l.table.items - l.place
