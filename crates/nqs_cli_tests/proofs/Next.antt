-- The disks that came back with the last part.
use Rattle.std.proofs.Common.{◌≡◌, List, [], ◌∷◌, ◌++◌, Option, refl}
use Rattle.nqs_disk.specs.declared.mem_disk.MemDisk.{MemDisk}
use Rattle.nqs_store.specs.declared.disks.Disks.{Disks}
use Rattle.nqs_cli_tests.specs.declared.kept.Returned.{Returned}
use Rattle.nqs_cli_tests.specs.NextRun.{disks_in, or_else, next_disks}

pub next_last : (front : List Returned) (part : Returned) (there : Option (Disks MemDisk))
    → next_disks (front ++ part ∷ []) there ≡ or_else (disks_in part) there
next_last [] part there = refl
next_last (x ∷ []) part there = refl
next_last (x ∷ y ∷ front) part there = next_last (y ∷ front) part there
