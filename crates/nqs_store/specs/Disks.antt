-- The disks of a host.
use Rattle.std.specs.Prelude.{ℕ, Bool, List}
use Rattle.nqs_types.specs.declared.world.Which.{Which}
use Rattle.nqs_types.specs.declared.world.Which.TheVariants.{Root, First, Second, Spool}
use Rattle.nqs_outside.specs.History.{History, content}
use Rattle.nqs_store.specs.declared.disks.Disks.{Disks}

-- one of them
abbrev pub disk_at : {D : Type 0} → Which → Disks D → D
disk_at Root disks = disks.root
disk_at First disks = disks.first
disk_at Second disks = disks.second
disk_at Spool disks = disks.spool

-- what each of them did
abbrev pub histories_of : {D : Type 0} → (D → History) → Disks D → Which → History
histories_of history disks which = history (disk_at which disks)

-- which of their calls are to fail
abbrev pub failing_of : {D : Type 0} → (D → ℕ → Bool) → Disks D → Which → ℕ → Bool
failing_of fails disks which = fails (disk_at which disks)

-- what each of them holds
abbrev pub contents : (Which → History) → Which → List ℕ
contents now which = content (now which)
