-- Where a host rests: nothing is left that it may start.
use Rattle.std.specs.Prelude.{Bool, not, if◌then◌else◌, Option, None, Some}
use Rattle.std.specs.Option.{option_map}
use Rattle.std.specs.List.{list_any}
use Rattle.nqs_rules.specs.Tests.{passes}
use Rattle.nqs_rules.specs.World.{World, Host, Act, Asks, Ends, Finishes, Fails, Writes, Leaves, Delivers, Newest, Ticks, Boots, host_of, packet_at}
use Rattle.nqs_rules.specs.World.{newest_between}
use Rattle.nqs_types.specs.declared.ids.HostId.{HostId}
use Rattle.nqs_types.specs.declared.message.Message.{Message}
use Rattle.nqs_state.specs.Least.{runs_now}

-- the host that a packet goes to, if there is a packet
abbrev pub receiver : Option Message → Option HostId
receiver m = option_map (λ m. m.to) m

-- the host, if it passes the test
abbrev pub if_host : (Host → Bool) → HostId → World → Option HostId
if_host test h w = if passes test (host_of h w) then Some h else None

-- whether some request of the host runs
abbrev pub runs_something : Host → Bool
runs_something host = list_any runs_now host.state.rows

-- The host that an event is for, if it is one behind which come starts: one that a host takes, or a
-- boot of a host that is down. No host takes a finish where nothing runs.
abbrev pub host_for : Act → World → Option HostId
host_for (Asks h user c) w = Some h
host_for (Ends h id start status output error) w = Some h
host_for (Finishes h) w = if_host runs_something h w
host_for (Fails h id start) w = Some h
host_for (Writes h file) w = Some h
host_for (Leaves h file) w = Some h
host_for (Delivers k) w = receiver (packet_at k w)
host_for (Newest a b) w = receiver (newest_between a b w)
host_for (Ticks h) w = Some h
host_for (Boots h) w = if_host (λ host. not host.up) h w
host_for _ w = None
