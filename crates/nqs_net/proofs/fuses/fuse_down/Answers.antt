use Rattle.std.proofs.Common.{◌≡◌, sym, subst, ap, ◌∙◌}
use Rattle.nqs_types.specs.declared.world.Which.TheVariants.{Root}
use Rattle.nqs_outside.specs.History.{content}
use Rattle.nqs_disk.specs.MemDisk as mem
use Rattle.nqs_store.specs.Disks.{histories_of, failing_of, contents}
use Rattle.nqs_store.specs.Active.{IsActive}
use Rattle.nqs_store.specs.Images.{IsTold}
use Rattle.nqs_net.specs.Worlds.{IsDown, active_in}
use Rattle.nqs_net.proofs.Fusing.{fused_disks, none_failed}
use Rattle.nqs_net.proofs.fuses.fuse_down.Goals as goal

pub invariant_of-down : goal.invariant_of-down
invariant_of-down c = record {
  rests = λ which. ap (λ h. h.calls) (c.fuse_disks.ensures.same which
      ∙ ap (λ d. histories_of mem.history_of d which) c.deref_mut.ensures.value) ∙ c.args.down.now.rests which;
}

pub returns-clause-disks : goal.returns-clause-disks
returns-clause-disks c = λ disk. c.fuse_disks.ensures.same disk ∙ ap (λ d. histories_of mem.history_of d disk) c.deref_mut.ensures.value

pub returns-clause-stands : goal.returns-clause-stands
returns-clause-stands c = λ host tear down. let is = subst (λ d. IsDown d host) (sym c.deref_mut.ensures.value) down in
    let old = histories_of mem.history_of c.deref_mut.result.now in let new = histories_of mem.history_of c.fuse_disks.new.disks in
    let here : old ≡ new = λ j which. sym (c.fuse_disks.ensures.same which) j in record {
      down = is.down;
      told = is.told;
      tells = subst (λ h. IsTold (contents h) host.state) here is.tells;
      disks = fused_disks host c.args.calls tear old new (failing_of mem.fails_of c.deref_mut.result.now)
          (failing_of mem.fails_of c.fuse_disks.new.disks) is.disks c.fuse_disks.ensures.same c.args.which
          (c.fuse_disks.ensures.set (none_failed host old (failing_of mem.fails_of c.deref_mut.result.now) is.disks c.args.which)) c.fuse_disks.ensures.others;
      root = ap content (c.fuse_disks.ensures.same Root) ∙ is.root;
      active = subst (λ h. IsActive (contents h) (active_in host)) here is.active;
      calls = λ which. ap (λ h. h.calls) (c.fuse_disks.ensures.same which) ∙ is.calls which;
    }
