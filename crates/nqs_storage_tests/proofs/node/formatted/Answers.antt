use Rattle.std.proofs.Common.{refl}
use Rattle.nqs_disk.specs.MemDisk.{history_of}
use Rattle.nqs_store.proofs.LeftAlone.{all_quiet}
use Rattle.nqs_storage_tests.proofs.node.formatted.Goals as goal

pub returns-in-Ok : goal.returns-in-Ok
returns-in-Ok c = all_quiet history_of c.empty_disks-disks.result c.format.new.disks c.empty_disks-disks.ensures (c.in-Ok.ensures.told refl).opened.quiet
    c.format.ensures.root c.format.ensures.second c.format.ensures.spool
