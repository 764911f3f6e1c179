use Rattle.std.proofs.Common.{◌∙◌, refl, sym, ap, subst}
use Rattle.nqs_types.specs.declared.world.Which.TheVariants.{Root}
use Rattle.nqs_outside.specs.History.{content}
use Rattle.nqs_node.specs.Nodes.{history_of, fails_of, content_of, is_stopped}
use Rattle.nqs_store.specs.Sound.{IsSoundHost}
use Rattle.nqs_net.specs.Worlds.{IsUp, active_in}
use Rattle.nqs_net.proofs.Coming.{come_still}
use Rattle.nqs_net.proofs.Fusing.{fused_disks, none_failed}
use Rattle.nqs_net.proofs.fuses.fuse_up.Goals as goal

pub invariant_of-up : goal.invariant_of-up
invariant_of-up c = record {
  sound = subst IsSoundHost (sym (c.fuse.ensures.state ∙ ap content_of c.deref_mut.ensures.value)) c.args.up.now.sound;
  running = c.fuse.ensures.stopped.0 ∙ ap is_stopped c.deref_mut.ensures.value ∙ c.args.up.now.running;
}

pub returns-clause-disks : goal.returns-clause-disks
returns-clause-disks c = λ disk. c.fuse.ensures.same disk ∙ ap (λ n. history_of n disk) c.deref_mut.ensures.value

pub returns-clause-stands : goal.returns-clause-stands
returns-clause-stands c = λ host tear up. let is = subst (λ n. IsUp n host) (sym c.deref_mut.ensures.value) up in let old = c.deref_mut.result.now in
    let new = c.fuse.new.self in record {
      up = is.up;
      tells = c.fuse.ensures.tells host.state is.tells;
      sound = subst IsSoundHost (sym c.fuse.ensures.state) is.sound;
      disks = fused_disks host c.args.calls tear (history_of old) (history_of new) (fails_of old) (fails_of new) is.disks c.fuse.ensures.same c.args.which
          (c.fuse.ensures.set refl (none_failed host (history_of old) (fails_of old) is.disks c.args.which)) c.fuse.ensures.others;
      root = ap content (c.fuse.ensures.same Root) ∙ is.root;
      active = c.fuse.ensures.stopped.1 ∙ is.active;
      past = come_still (history_of old) (history_of new) (active_in host) host.told host.state c.fuse.ensures.same is.past;
    }
