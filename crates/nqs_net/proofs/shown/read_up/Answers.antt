use Rattle.std.proofs.Common.{◌∙◌, Err, refl, sym, ap, subst}
use Rattle.nqs_rules.specs.World.{of_disk}
use Rattle.nqs_node.specs.Nodes.{history_of, fails_of, content_of, is_stopped}
use Rattle.nqs_store.specs.Sound.{IsSoundHost}
use Rattle.nqs_net.specs.Worlds.{IsUp}
use Rattle.nqs_net.proofs.Fates.{unblown}
use Rattle.nqs_net.proofs.Showing.{same_up, up_stands}
use Rattle.nqs_net.proofs.shown.read_up.Goals as goal

pub invariant_of-up : goal.invariant_of-up
invariant_of-up c = record {
  sound = subst IsSoundHost (sym (c.reread.ensures.state ∙ ap content_of c.deref_mut.ensures.value)) c.args.up.now.sound;
  running = c.reread.ensures.stays.0 ∙ ap is_stopped c.deref_mut.ensures.value ∙ c.args.up.now.running;
}

pub unread-requires : goal.unread-requires
unread-requires c =
    let is = subst (λ n. IsUp n c.requires.0) (sym c.deref_mut.ensures.value) c.requires.1 in record {
      whole = λ which e. unblown (of_disk which c.requires.0.fuses) (history_of c.deref_mut.result.now which) (fails_of c.deref_mut.result.now which)
          (is.disks which).fuse ((c.in-Err.ensures.failed which (ap Err e)).blown refl);
      told = λ which place e. c.in-Err.ensures.never refl c.requires.0.state is.tells which place (ap Err e);
    }

pub returns-in-Ok-clause-same : goal.returns-in-Ok-clause-same
returns-in-Ok-clause-same c = λ host up. same_up c.deref_mut.result.now c.reread.new.self host (c.reread.ensures.reads.same refl)
    (c.reread.ensures.reads.fuse refl) c.reread.ensures.state c.reread.ensures.stays.1
    (c.reread.ensures.tells refl) (subst (λ n. IsUp n host) (sym c.deref_mut.ensures.value) up)

pub returns-in-Ok-clause-state : goal.returns-in-Ok-clause-state
returns-in-Ok-clause-state c = λ host up.
    let is = subst (λ n. IsUp n host) (sym c.deref_mut.ensures.value) up in
    up_stands c.deref_mut.result.now c.in-Ok.state host (c.in-Ok.ensures.told refl host.state is.tells) is

pub returns-in-Err-clause-same : goal.returns-in-Err-clause-same
returns-in-Err-clause-same c = λ host up. same_up c.deref_mut.result.now c.reread.new.self host (c.reread.ensures.reads.same refl)
    (c.reread.ensures.reads.fuse refl) c.reread.ensures.state c.reread.ensures.stays.1
    (c.reread.ensures.tells refl) (subst (λ n. IsUp n host) (sym c.deref_mut.ensures.value) up)

pub returns-in-Ok-clause-disks : goal.returns-in-Ok-clause-disks
returns-in-Ok-clause-disks c = λ which. c.reread.ensures.reads.same refl which ∙ ap (λ n. history_of n which) c.deref_mut.ensures.value

pub returns-in-Err-clause-disks : goal.returns-in-Err-clause-disks
returns-in-Err-clause-disks c = λ which. c.reread.ensures.reads.same refl which ∙ ap (λ n. history_of n which) c.deref_mut.ensures.value
