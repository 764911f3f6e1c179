use Rattle.std.proofs.Common.{◌≡◌, ◌++◌, map, take}
use Rattle.nqs_base.specs.declared.extent.Extent.{Extent}
use Rattle.std.specs.Fn.{FnReturnsAt}
use Rattle.nqs_store.proofs.live.add_parts.Given as goal

abbrev pub invariant-loop-place : goal.invariant-loop-place
invariant-loop-place g l = (part : _ → Extent) → ((v : _) (x : Extent) → FnReturnsAt g.F.Fn l.part v x → x ≡ part v)
    → l.extents.items ≡ l.initial.extents.items ++ map part (take l.place l.table.items)
