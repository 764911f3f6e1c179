use Rattle.std.proofs.Common.{◌≡◌, ◌∙◌, sym, ap, subst}
use Rattle.nqs_disk.specs.MemDisk as mem
use Rattle.nqs_store.specs.Disks.{histories_of}
use Rattle.nqs_node.specs.Nodes.{history_of}
use Rattle.nqs_net.specs.Followed.{disks_in}
use Rattle.nqs_net.specs.Worlds.{IsSlot}
use Rattle.nqs_net.proofs.shown.read.Goals as goal

pub read_up-requires : goal.read_up-requires
read_up-requires c = (c.requires.0, subst (λ slot. IsSlot slot c.requires.0) c.in-Up.is c.requires.1)

pub read_down-requires : goal.read_down-requires
read_down-requires c = (c.requires.0, subst (λ slot. IsSlot slot c.requires.0) c.in-Down.is c.requires.1)

pub returns-in-Up-clause-same : goal.returns-in-Up-clause-same
returns-in-Up-clause-same c = λ host stands. c.read_up.ensures.same host (subst (λ slot. IsSlot slot host) c.in-Up.is stands)

pub returns-in-Up-clause-state : goal.returns-in-Up-clause-state
returns-in-Up-clause-state c = λ host stands. c.read_up.ensures.state host (subst (λ slot. IsSlot slot host) c.in-Up.is stands)

pub returns-in-Down-clause-same : goal.returns-in-Down-clause-same
returns-in-Down-clause-same c = λ host stands. c.read_down.ensures.same host (subst (λ slot. IsSlot slot host) c.in-Down.is stands)

pub returns-in-Down-clause-state : goal.returns-in-Down-clause-state
returns-in-Down-clause-state c = λ host stands. c.read_down.ensures.state host (subst (λ slot. IsSlot slot host) c.in-Down.is stands)

pub returns-in-Up-clause-disks : goal.returns-in-Up-clause-disks
returns-in-Up-clause-disks c = (let e : history_of c.read_up.new.up.node.value ≡ history_of c.in-Up.up.node.value =
    λ j which. c.read_up.ensures.disks which j in e) ∙ sym (ap disks_in c.in-Up.is)

pub returns-in-Down-clause-disks : goal.returns-in-Down-clause-disks
returns-in-Down-clause-disks c =
    (let e : histories_of mem.history_of c.read_down.new.down.disks.value ≡ histories_of mem.history_of c.in-Down.down.disks.value =
    λ j which. c.read_down.ensures.disks which j in e) ∙ sym (ap disks_in c.in-Down.is)
