use Rattle.std.proofs.Common.{refl}
use Rattle.nqs_disk.specs.MemDisk.{history_of}
use Rattle.nqs_store.proofs.LeftAlone.{all_quiet}
use Rattle.nqs_served.proofs.host.formatted.Goals as goal

pub returns : goal.returns
returns c =
    all_quiet history_of c.empty_disks-disks.result c.format.new.disks c.empty_disks-disks.ensures (c.in_ok-format.ensures.told refl).opened.quiet
    c.format.ensures.root c.format.ensures.second c.format.ensures.spool
