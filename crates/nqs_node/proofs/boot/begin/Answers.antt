use Rattle.std.proofs.Common.{[], Err, refl, ap}
use Rattle.nqs_state.specs.State.{content}
use Rattle.nqs_base.specs.Want.{want}
use Rattle.nqs_types.specs.declared.change.Change.TheVariants.{Boot}
use Rattle.nqs_store.specs.declared.fault.LoadFault.TheVariants.{Disk, Memory}
use Rattle.nqs_node.proofs.Booting.{loads_memory, disk_memory, at_disk, load_makes, booted_makes}
use Rattle.nqs_node.proofs.Nothing.{makes_none}
use Rattle.nqs_node.proofs.boot.begin.Goals as goal

pub returns-in-Err-clause-makes : goal.returns-in-Err-clause-makes
returns-in-Err-clause-makes g c =
    makes_none c.args.store.now (content c.args.state.now) c.requires.sound Boot [] Disk (Memory want) _ (loads_memory _ refl)

pub returns-in-Err-reserve-clause-makes : goal.returns-in-Err-reserve-clause-makes
returns-in-Err-reserve-clause-makes g c =
    makes_none c.args.store.now (content c.args.state.now) c.requires.sound Boot [] Disk (Memory want) _ (loads_memory _ refl)

pub returns-in-Err-Memory-clause-makes : goal.returns-in-Err-Memory-clause-makes
returns-in-Err-Memory-clause-makes g c =
    load_makes c.args.store.now c.keep.new.store c.in-Err-Memory.field-0 _ (λ which is. absurd (loads_memory _ refl which is)) _ _ _ _
    (λ is. ap Err c.in-Err-Memory.field-0-is) c.in-Err-Memory.ensures.makes

pub returns-in-Err-Disk-clause-makes : goal.returns-in-Err-Disk-clause-makes
returns-in-Err-Disk-clause-makes g c =
    load_makes c.args.store.now c.keep.new.store c.in-Err-Disk.field-0 _ (at_disk c.in-Err-Disk.field-0 c.in-Err-Disk.which c.in-Err-Disk.field-0-is)
    _ _ _ _ (λ is. absurd (disk_memory _ is)) c.in-Err-Disk.ensures.makes

pub returns-clause-makes : goal.returns-clause-makes
returns-clause-makes g c = booted_makes c.args.store.now c.keep.new.store _ _ _ _ c.in-Ok-keep.ensures.makes

pub returns-clause-spelled : goal.returns-clause-spelled
returns-clause-spelled g c = c.in-Ok-keep.ensures.spelled

pub returns-in-Err-clause-unread : goal.returns-in-Err-clause-unread
returns-in-Err-clause-unread g c = λ yes which. refl

pub returns-in-Err-reserve-clause-unread : goal.returns-in-Err-reserve-clause-unread
returns-in-Err-reserve-clause-unread g c = λ yes which. refl
