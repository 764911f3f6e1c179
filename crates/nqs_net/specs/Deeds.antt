-- What comes to one host of a network, and what it makes of the network.
use Rattle.std.specs.Prelude.{ℕ, IsTrue, if◌then◌else◌, List, length, Option, None, Some}
use Rattle.nqs_types.specs.declared.event.Event.TheVariants as event
use Rattle.nqs_types.specs.declared.ids.HostId.{HostId}
use Rattle.nqs_types.specs.declared.message.Message.{Message}
use Rattle.nqs_types.specs.declared.world.Seen.TheVariants as seen
use Rattle.nqs_rules.specs.Sane.{is_sane_event}
use Rattle.nqs_rules.specs.World.{Act, Asks, Ends, Finishes, Fails, Writes, Leaves, Delivers, Newest, Ticks, Crashes, Boots, Host, Ran, World as Network}
use Rattle.nqs_rules.specs.World.{host_of, unseen, seeing}
use Rattle.nqs_rules.specs.World.{takes_up, finishes_up, crashes_up, boots_down, packet_at, newest_between}
use Rattle.nqs_laws.specs.Words.{IsInOrderAll}
use Rattle.nqs_node.specs.Nodes.{content_of}
use Rattle.nqs_net.specs.declared.deed.Deed.{Deed}
use Rattle.nqs_net.specs.declared.deed.Deed.TheVariants.{Take, Finish, Crash, Boot}
use Rattle.nqs_net.specs.declared.slot.Slot.{Slot}
use Rattle.nqs_net.specs.declared.slot.Slot.TheVariants.{Up, Down}
use Rattle.nqs_net.specs.declared.world.World.{World}
use Rattle.nqs_net.specs.Worlds.{IsDown, IsWorld}

-- at a host that is up
abbrev pub done_up : Deed → HostId → Host → Network → Ran
done_up (Take e) h host w = takes_up h host e w
done_up Finish h host w = finishes_up h host w
done_up Crash h host w = crashes_up h host w
done_up Boot h host w = seeing (seen.Up h) w

-- at one that is down
abbrev pub done_down : Deed → HostId → Host → Network → Ran
done_down Boot h host w = boots_down h host w
done_down _ h host w = seeing (seen.Down h) w

-- at a host, by whether it is up
abbrev pub done_at : Deed → HostId → Host → Network → Ran
done_at deed h host w = if host.up then done_up deed h host w else done_down deed h host w

-- at a host, if there is one; else nothing happens
abbrev pub done_by : Option Host → Deed → HostId → Network → Ran
done_by None deed h w = unseen w
done_by (Some host) deed h w = done_at deed h host w

-- at a place, which may have no host
abbrev pub done : Deed → HostId → Network → Ran
done deed h w = done_by (host_of h w) deed h w

-- its values are within their limits, at a site of so many hosts
abbrev pub IsSaneFor : ℕ → Deed → Type 0
IsSaneFor hosts (Take e) = IsTrue (is_sane_event hosts e)
IsSaneFor hosts _ = Unit {0}

-- the same at a host, if it is up
abbrev pub IsSaneAt : Deed → Slot → Type 0
IsSaneAt deed (Up up) = IsSaneFor (length (content_of up.node.value).site) deed
IsSaneAt deed (Down down) = Unit {0}

-- a host that is down may be booted: its disks tell it
abbrev pub MayBoot : Slot → Type 0
MayBoot (Up up) = Unit {0}
MayBoot (Down down) = (host : Host) × IsDown down.disks.value host

-- the world stands for a network in order, and it is within its limits there
pub record IsReady (world : World) (deed : Deed) : Type 0 where
  pub site : List (List ℕ)
  pub network : Network
  pub order : IsInOrderAll site network
  pub stands : IsWorld world network
  pub sane : IsSaneFor (length site) deed

-- what comes to one host by these events, at this moment
abbrev pub plain_deed : Act → ℕ → Option (HostId × Deed)
plain_deed (Finishes h) now = Some (h, Finish)
plain_deed (Fails h id start) now = Some (h, Take (event.Unlaunched now id start))
plain_deed (Writes h file) now = Some (h, Take (event.Written now file))
plain_deed (Leaves h file) now = Some (h, Take (event.Unwritten now file))
plain_deed (Ticks h) now = Some (h, Take (event.Tick now))
plain_deed (Crashes h) now = Some (h, Crash)
plain_deed (Boots h) now = Some (h, Boot)
plain_deed _ now = None

-- a packet, if there is one, comes to its host
abbrev pub arrival : Option Message → ℕ → Option (HostId × Deed)
arrival None now = None
arrival (Some m) now = Some (m.to, Take (event.Arrived now m))

-- what comes to one host by an event, if anything does
abbrev pub deed_of : Act → Network → Option (HostId × Deed)
deed_of (Asks h user c) w = Some (h, Take (event.Ask w.now 0 0 user c))
deed_of (Ends h id start status output error) w = Some (h, Take (event.Ended w.now 0 id start status output error))
deed_of (Delivers k) w = arrival (packet_at k w) w.now
deed_of (Newest one other) w = arrival (newest_between one other w) w.now
deed_of act w = plain_deed act w.now
