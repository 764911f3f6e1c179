use Rattle.std.proofs.Common.{◌≡◌, ◌∙◌, sym, ap, subst}
use Rattle.nqs_disk.specs.MemDisk as mem
use Rattle.nqs_store.specs.Disks.{histories_of}
use Rattle.nqs_node.specs.Nodes.{history_of}
use Rattle.nqs_net.specs.Followed.{disks_in}
use Rattle.nqs_net.specs.Worlds.{IsSlot}
use Rattle.nqs_net.proofs.fuses.fuse_slot.Goals as goal

pub returns-in-Up-clause-disks : goal.returns-in-Up-clause-disks
returns-in-Up-clause-disks c = (let e : history_of c.fuse_up.new.up.node.value ≡ history_of c.in-Up.up.node.value =
    λ j which. c.fuse_up.ensures.disks which j in e) ∙ sym (ap disks_in c.in-Up.is)

pub returns-in-Down-clause-disks : goal.returns-in-Down-clause-disks
returns-in-Down-clause-disks c =
    (let e : histories_of mem.history_of c.fuse_down.new.down.disks.value ≡ histories_of mem.history_of c.in-Down.down.disks.value =
    λ j which. c.fuse_down.ensures.disks which j in e) ∙ sym (ap disks_in c.in-Down.is)

pub returns-in-Up-clause-stands : goal.returns-in-Up-clause-stands
returns-in-Up-clause-stands c = λ host tear is. c.fuse_up.ensures.stands host tear (subst (λ s. IsSlot s host) c.in-Up.is is)

pub returns-in-Down-clause-stands : goal.returns-in-Down-clause-stands
returns-in-Down-clause-stands c = λ host tear is. c.fuse_down.ensures.stands host tear (subst (λ s. IsSlot s host) c.in-Down.is is)
