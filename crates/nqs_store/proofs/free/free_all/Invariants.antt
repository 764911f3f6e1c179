use Rattle.std.proofs.Common.{◌≡◌, Bool, List, map, filter, drop}
use Rattle.std.specs.Fn.{FnReturnsAt}
use Rattle.nqs_base.specs.declared.extent.Extent.{Extent}
use Rattle.nqs_spool.specs.Spooled.{disk_of, Tells}
use Rattle.nqs_store.specs.Accounts.{Takes}
use Rattle.nqs_store.proofs.free.free_all.Given as goal

abbrev pub invariant-loop-place : goal.invariant-loop-place
invariant-loop-place g l = record {
  same : disk_of l.spool ≡ disk_of l.initial.spool;
  tells : (p : _ → Bool) (part : _ → Extent) → ((v : _) (b : Bool) → FnReturnsAt g.P.Fn l.goes v b → b ≡ p v)
      → ((v : _) (x : Extent) → FnReturnsAt g.F.Fn l.part v x → x ≡ part v)
      → (live fewer : List Extent) → Tells l.initial.spool live → Takes live (map part (filter p l.table.items)) fewer
      → (mid : List Extent) × Tells l.spool mid × Takes mid (map part (filter p (drop l.place l.table.items))) fewer;
}
