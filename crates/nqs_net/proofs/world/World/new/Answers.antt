use Rattle.std.proofs.Common.{take, subst, sym, refl}
use Rattle.nqs_rules.specs.World.{hosts_from, new_host}
use Rattle.nqs_net.specs.Worlds.{AreSlots}
use Rattle.nqs_net.proofs.Founding.{more_up, host_more}
use Rattle.nqs_net.proofs.world.World.new.Goals as goal

pub loop-me-preserved : goal.loop-me-preserved
loop-me-preserved c =
    let site = c.args.site.now in
    let me = c.loop-me.me in
    let slots = c.push.new.self.items in
    let tears = c.push-in-loop-me.new.self.items in
    subst (λ hosts. AreSlots slots tears hosts) (sym (host_more site me c.loop-me-test.true))
    (more_up c.loop-me.slots.items slots c.loop-me.tears.items tears (hosts_from 0 site (take me site)) _
    (new_host site me) c.loop-me.invariant c.in_ok-push.ensures.items c.in_ok-push-2.ensures.items c.in_ok-node.ensures.up refl)
