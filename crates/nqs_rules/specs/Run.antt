-- Whole runs of a network.
use Rattle.std.specs.Prelude.{ℕ, List, [], ◌∷◌, map, None, Some}
use Rattle.nqs_state.specs.State.{Plain}
use Rattle.nqs_rules.specs.World.{World, Act, Asks, Ends, Finishes, Fails, Writes, Leaves, Delivers, Newest, Ticks, Clock, Fuse, Crashes, Boots, Shows, Ran}
use Rattle.nqs_rules.specs.World.{unseen, seeing, then_ran, host_of, takes, taken_by, finishes_up, delivers, packet_at, newest_between, fuses, crashes_up}
use Rattle.nqs_rules.specs.World.{boots, new_world}
use Rattle.nqs_rules.specs.Net.{table}
use Rattle.nqs_types.specs.declared.world.Seen.TheVariants as seen
use Rattle.nqs_types.specs.declared.event.Event.TheVariants as event

-- the states of all hosts, in the order of the site
abbrev pub states_of : World → List Plain
states_of w = map (λ h. h.state) w.hosts

-- what an event makes of a world, and what is noted of it
abbrev pub happens : Act → World → Ran
happens (Asks h user c) w = takes h (event.Ask w.now 0 0 user c) w
happens (Ends h id start status output error) w = takes h (event.Ended w.now 0 id start status output error) w
happens (Finishes h) w = taken_by (host_of h w) h (finishes_up h) w
happens (Fails h id start) w = takes h (event.Unlaunched w.now id start) w
happens (Writes h file) w = takes h (event.Written w.now file) w
happens (Leaves h file) w = takes h (event.Unwritten w.now file) w
happens (Delivers k) w = delivers (Some k) (packet_at k w) w
happens (Newest a b) w = delivers None (newest_between a b w) w
happens (Ticks h) w = takes h (event.Tick w.now) w
happens (Clock moment) w = unseen (record w { now = moment })
happens (Fuse h disk calls tear) w = unseen (fuses h disk calls tear w)
happens (Crashes h) w = taken_by (host_of h w) h (crashes_up h) w
happens (Boots h) w = boots h (host_of h w) w
happens Shows w = seeing (seen.Table (table (states_of w))) w

-- a whole run
abbrev pub run : List Act → World → Ran
run [] w = unseen w
run (a ∷ acts) w = then_ran (happens a w) (run acts)

-- the run of a new network
abbrev pub run_of : List (List ℕ) → List Act → Ran
run_of site acts = run acts (new_world site)
