use Rattle.nqs_schedule.specs.Generated.{booted}
use Rattle.nqs_schedule.proofs.Draws.{hosts_none, hosts_more}
use Rattle.nqs_schedule.proofs.draw.add_boots.Goals as goal

pub loop-host-init : goal.loop-host-init
loop-host-init c = record { so_far = hosts_none booted c.args.events.now }

pub loop-host-preserved : goal.loop-host-preserved
loop-host-preserved c = record {
  so_far = hosts_more booted c.loop-host.host c.args.events.now c.loop-host.events c.push.new.self c.loop-host.invariant.so_far
      c.in_ok-push.ensures.ok;
}
