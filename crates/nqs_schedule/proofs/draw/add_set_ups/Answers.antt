use Rattle.nqs_schedule.specs.Generated.{set_up}
use Rattle.nqs_schedule.proofs.Draws.{hosts_none, hosts_more}
use Rattle.nqs_schedule.proofs.draw.add_set_ups.Goals as goal

pub loop-host-init : goal.loop-host-init
loop-host-init c = record { so_far = hosts_none (set_up c.args.hosts) c.args.events.now }

pub loop-host-preserved : goal.loop-host-preserved
loop-host-preserved c = record {
  so_far = hosts_more (set_up c.args.hosts) c.loop-host.host c.args.events.now c.loop-host.events c.add_set_up.new.events
      c.loop-host.invariant.so_far c.in_ok-add_set_up.ensures;
}
