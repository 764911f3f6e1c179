use Rattle.std.proofs.Common.{◌∙◌, refl, sym, ap, subst, arith}
use Rattle.std.proofs.Math.Seq.{map-set_same}
use Rattle.nqs_rules.specs.World.{fused_host}
use Rattle.nqs_net.specs.Followed.{disks_in}
use Rattle.nqs_net.specs.Worlds.{AreSlots}
use Rattle.nqs_net.proofs.Placing.{tears_as_long}
use Rattle.nqs_net.proofs.Fusing.{set_slot, set_past}
use Rattle.nqs_net.proofs.world.World.fuse.Goals as goal

pub index_mut-requires-then-place-len : goal.index_mut-requires-then-place-len
index_mut-requires-then-place-len c = let world = c.args.self.now in
    omega (arith, world.slots.ok.0, world.tears.ok.0, tears_as_long world.slots.items world.tears.items c.requires.stands.0.hosts c.requires.stands.1.hosts)

pub returns-then-place-len-clause-stands : goal.returns-then-place-len-clause-stands
returns-then-place-len-clause-stands c = λ network stands. let world = c.args.self.now in record {
  site = stands.site;
  hosts = set_slot world.slots.items world.tears.items network.hosts c.args.host.0 c.index_mut.result.now c.fuse_slot.new.slot c.args.tear
      (fused_host c.args.disk c.args.calls c.args.tear) stands.hosts
      (omega (arith, world.slots.ok.0)) c.index_mut.ensures.value (λ host. c.fuse_slot.ensures.stands host c.args.tear) (λ host. refl);
  packets = stands.packets;
  now = stands.now;
}

pub returns-else-place-len-clause-stands : goal.returns-else-place-len-clause-stands
returns-else-place-len-clause-stands c = λ network stands. let world = c.args.self.now in record {
  site = stands.site;
  hosts = subst (AreSlots world.slots.items world.tears.items) (sym (set_past world.slots.items world.tears.items network.hosts c.args.host.0
      (fused_host c.args.disk c.args.calls c.args.tear) stands.hosts (omega (arith, world.slots.ok.0)))) stands.hosts;
  packets = stands.packets;
  now = stands.now;
}

pub returns-then-place-len-clause-disks : goal.returns-then-place-len-clause-disks
returns-then-place-len-clause-disks c = map-set_same disks_in c.args.self.now.slots.items c.args.host.0 c.fuse_slot.new.slot c.index_mut.result.now
    (c.fuse_slot.ensures.disks ∙ ap disks_in c.index_mut.ensures.value)
