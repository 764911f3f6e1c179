use Rattle.std.proofs.Common.{◌∙◌, sym, ap, subst}
use Rattle.nqs_disk.specs.MemDisk as mem
use Rattle.nqs_store.specs.Disks.{histories_of}
use Rattle.nqs_net.specs.Turns.{IsTorn}
use Rattle.nqs_net.proofs.stop.stop.Goals as goal

pub invariant_of-result : goal.invariant_of-result
invariant_of-result c = record {
  rests = λ which. ap (λ d. (histories_of mem.history_of d which).calls) c.in_ok-disks-2.ensures.ok
      ∙ ap (λ h. h.calls) (c.in_ok-disks.ensures.torn.histories which);
}

pub returns-clause-stopped : goal.returns-clause-stopped
returns-clause-stopped c = subst (IsTorn c.args.turn.now.tear (histories_of mem.history_of c.args.disks))
    (sym c.in_ok-disks-2.ensures.ok) c.in_ok-disks.ensures.torn
