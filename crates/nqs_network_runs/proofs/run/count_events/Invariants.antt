use Rattle.std.proofs.Common.{◌≡◌, take}
use Rattle.nqs_rules.specs.World.{seen_of}
use Rattle.nqs_net.specs.Worlds.{IsWorld}
use Rattle.nqs_schedule.specs.Summary.{nothing_seen, summary_of}
use Rattle.nqs_network_runs.specs.Running.{ran}
use Rattle.nqs_network_runs.proofs.run.count_events.Given as goal

abbrev pub invariant-loop-event : goal.invariant-loop-event
invariant-loop-event l = record {
  world : IsWorld l.world (ran l.site (take l.event-index l.events)).world;
  counted : l.summary ≡ summary_of nothing_seen (seen_of (ran l.site (take l.event-index l.events)));
}
