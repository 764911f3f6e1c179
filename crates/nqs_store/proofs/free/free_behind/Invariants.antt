use Rattle.std.proofs.Common.{◌≡◌, List, map, drop}
use Rattle.nqs_base.specs.declared.extent.Extent.{Extent}
use Rattle.nqs_spool.specs.Spooled.{disk_of, Tells}
use Rattle.nqs_rules.specs.Stepped.{part_bytes}
use Rattle.nqs_store.specs.Accounts.{Takes}
use Rattle.nqs_store.proofs.free.free_behind.Given as goal

abbrev pub invariant-loop-part : goal.invariant-loop-part
invariant-loop-part g l = record {
  same : disk_of l.spool ≡ disk_of l.initial.spool;
  tells : (live fewer : List Extent) → Tells l.initial.spool live → Takes live (map part_bytes l.later) fewer
      → (mid : List Extent) × Tells l.spool mid × Takes mid (map part_bytes (drop l.part-index l.later)) fewer;
}
