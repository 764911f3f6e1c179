use Rattle.std.proofs.Common.{◌∙◌, Err, refl, sym, ap, subst}
use Rattle.nqs_rules.specs.World.{of_disk}
use Rattle.nqs_disk.specs.MemDisk as mem
use Rattle.nqs_store.specs.Disks.{histories_of, failing_of}
use Rattle.nqs_net.specs.Worlds.{IsDown}
use Rattle.nqs_net.proofs.Fates.{unblown}
use Rattle.nqs_net.proofs.Showing.{same_down, down_stands}
use Rattle.nqs_net.proofs.shown.read_down.Goals as goal

pub invariant_of-down : goal.invariant_of-down
invariant_of-down c = record {
  rests = λ which. ap (λ h. h.calls) (c.read_only.ensures.reads.same refl which
      ∙ ap (λ d. histories_of mem.history_of d which) c.deref_mut.ensures.value) ∙ c.args.down.now.rests which;
}

pub unread-requires : goal.unread-requires
unread-requires c =
    let is = subst (λ d. IsDown d c.requires.0) (sym c.deref_mut.ensures.value) c.requires.1 in
    let disks = c.deref_mut.result.now in record {
      whole = λ which e. unblown (of_disk which c.requires.0.fuses) (histories_of mem.history_of disks which) (failing_of mem.fails_of disks which)
          (is.disks which).fuse ((c.in-Err.ensures.failed which (ap Err e)).blown refl);
      told = λ which place e. c.in-Err.ensures.never refl c.requires.0.state is.tells which place (ap Err e);
    }

pub returns-in-Ok-clause-same : goal.returns-in-Ok-clause-same
returns-in-Ok-clause-same c = λ host down. same_down c.deref_mut.result.now c.read_only.new.disks host (c.read_only.ensures.reads.same refl)
    (c.read_only.ensures.reads.fuse refl) (subst (λ d. IsDown d host) (sym c.deref_mut.ensures.value) down)

pub returns-in-Ok-clause-state : goal.returns-in-Ok-clause-state
returns-in-Ok-clause-state c = λ host down. down_stands c.deref_mut.result.now c.in-Ok.state host (c.in-Ok.ensures.host refl)
    (subst (λ d. IsDown d host) (sym c.deref_mut.ensures.value) down)

pub returns-in-Err-clause-same : goal.returns-in-Err-clause-same
returns-in-Err-clause-same c = λ host down. same_down c.deref_mut.result.now c.read_only.new.disks host (c.read_only.ensures.reads.same refl)
    (c.read_only.ensures.reads.fuse refl) (subst (λ d. IsDown d host) (sym c.deref_mut.ensures.value) down)

pub returns-in-Ok-clause-disks : goal.returns-in-Ok-clause-disks
returns-in-Ok-clause-disks c = λ which. c.read_only.ensures.reads.same refl which ∙ ap (λ d. histories_of mem.history_of d which) c.deref_mut.ensures.value

pub returns-in-Err-clause-disks : goal.returns-in-Err-clause-disks
returns-in-Err-clause-disks c = λ which. c.read_only.ensures.reads.same refl which ∙ ap (λ d. histories_of mem.history_of d which) c.deref_mut.ensures.value
