use Rattle.std.proofs.Common.{◌≡◌, ◌++◌, length}
use Rattle.std.specs.Prelude.{flat_map}
use Rattle.std.specs.List.{AllByRecursion}
use Rattle.nqs_records.proofs.put_lists.put_each.Given as goal

-- what is there and the rest are the whole
abbrev pub invariant-loop-item : goal.invariant-loop-item
invariant-loop-item g l = (l.fn.out.items ++ flat_map g.T.Put.field l.items ≡ l.out.items ++ flat_map g.T.Put.field l.rest)
    × AllByRecursion g.T.Put.IsPut l.rest

abbrev pub decreases-loop-item : goal.decreases-loop-item
decreases-loop-item g l = length l.rest
