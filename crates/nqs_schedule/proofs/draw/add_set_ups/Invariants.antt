use Rattle.std.proofs.Common.{◌≡◌, ◌++◌}
use Rattle.nqs_schedule.specs.Generated.{for_hosts, set_up}
use Rattle.nqs_schedule.proofs.draw.add_set_ups.Given as goal

abbrev pub invariant-loop-host : goal.invariant-loop-host
invariant-loop-host l = record { so_far : l.events ≡ l.fn.events ++ for_hosts (set_up l.hosts) l.host }
