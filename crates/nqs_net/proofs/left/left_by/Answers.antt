use Rattle.std.proofs.Common.{◌∙◌, sym, ap, subst}
use Rattle.nqs_node.specs.Nodes.{disk_of}
use Rattle.nqs_net.specs.Left.{IsLeft}
use Rattle.nqs_net.specs.Worlds.{IsSlot}
use Rattle.nqs_net.proofs.Leaving.{up_left, down_left}
use Rattle.nqs_net.proofs.left.left_by.Goals as goal

pub returns-in-Up : goal.returns-in-Up
returns-in-Up c = λ host stands. up_left c.in-Up.up.node.value c.close.result host (λ which. c.close.ensures which ∙ ap (disk_of which) c.into_inner.ensures)
    (subst (λ slot. IsSlot slot host) c.in-Up.is stands)

pub returns-in-Down : goal.returns-in-Down
returns-in-Down c = λ host stands. subst (λ d. IsLeft d host) (sym c.into_inner-in-Down.ensures)
    (down_left c.in-Down.down.disks.value host (subst (λ slot. IsSlot slot host) c.in-Down.is stands))
