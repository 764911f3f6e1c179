-- The disks of a machine in memory from one run to the next.
use Rattle.std.specs.Prelude.{List, [], ◌∷◌}
use Rattle.std.specs.declared.option.Option.{Option}
use Rattle.std.specs.declared.option.Option.TheVariants.{None, Some}
use Rattle.nqs_disk.specs.declared.mem_disk.MemDisk.{MemDisk}
use Rattle.nqs_store.specs.declared.disks.Disks.{Disks}
use Rattle.nqs_cli_tests.specs.declared.kept.Returned.{Returned}
use Rattle.nqs_cli_tests.specs.declared.kept.Returned.TheVariants as back

-- the disks that came back with a part, if it has any
abbrev pub disks_in : Returned → Option (Disks MemDisk)
disks_in (back.Disks host disks) = Some disks
disks_in (back.Daemon host disks around) = Some disks
disks_in (back.Client wire) = None
disks_in (back.Shepherd runner wire) = None

-- the first disks, where there are any, or else the second
abbrev pub or_else : Option (Disks MemDisk) → Option (Disks MemDisk) → Option (Disks MemDisk)
or_else None there = there
or_else (Some disks) there = Some disks

-- the disks of the next run: those that came back with the last part, where it has any, or else
-- those that are there
abbrev pub next_disks : List Returned → Option (Disks MemDisk) → Option (Disks MemDisk)
next_disks [] there = there
next_disks (part ∷ []) there = or_else (disks_in part) there
next_disks (part ∷ next ∷ parts) there = next_disks (next ∷ parts) there
