-- What comes to one host is what happens.
use Rattle.std.proofs.Common.{◌≡◌, ℕ, true, List, length, Option, None, Some, refl, ap, subst, ◌∙◌}
use Rattle.nqs_types.specs.declared.event.Event.{Event}
use Rattle.nqs_types.specs.declared.event.Event.TheVariants as event
use Rattle.nqs_types.specs.declared.ids.HostId.{HostId}
use Rattle.nqs_types.specs.declared.message.Message.{Message}
use Rattle.nqs_types.specs.declared.world.Seen.TheVariants as seen
use Rattle.nqs_rules.specs.Run.{happens}
use Rattle.nqs_rules.specs.World.{Act, Asks, Ends, Finishes, Fails, Writes, Leaves, Delivers, Newest, Ticks, Clock, Fuse, Crashes, Boots, Shows, Host}
use Rattle.nqs_rules.specs.Sane.{is_sane_message}
use Rattle.nqs_rules.specs.World.{World as Network, host_of, takes, taken_by, takes_up, finishes_up, crashes_up, boots, delivers, seeing, packet_at}
use Rattle.nqs_rules.specs.World.{newest_between}
use Rattle.nqs_laws.specs.Sane.{is_sane_act}
use Rattle.nqs_laws.specs.Words.{IsInOrderAll}
use Rattle.nqs_net.specs.Deeds.{done, done_by, done_down, arrival, deed_of, IsSaneFor, IsReady}
use Rattle.nqs_net.specs.Worlds.{IsWorld}
use Rattle.nqs_net.specs.declared.world.World.{World}
use Rattle.nqs_net.specs.declared.deed.Deed.{Deed}
use Rattle.nqs_net.specs.declared.deed.Deed.TheVariants as deed
use Rattle.nqs_net.proofs.Arriving.{numbered_sane, newest_sane}

taken_done : (o : Option Host) (h : HostId) (e : Event) (w : Network) → taken_by o h (λ host. takes_up h host e) w ≡ done_by o (deed.Take e) h w
taken_done None h e w = refl
taken_done (Some host) h e w = refl

pub takes_done : (h : HostId) (e : Event) (w : Network) → takes h e w ≡ done (deed.Take e) h w
takes_done h e w = taken_done (host_of h w) h e w

finish_done : (o : Option Host) (h : HostId) (w : Network) → taken_by o h (finishes_up h) w ≡ done_by o deed.Finish h w
finish_done None h w = refl
finish_done (Some host) h w = refl

crash_done : (o : Option Host) (h : HostId) (w : Network) → taken_by o h (crashes_up h) w ≡ done_by o deed.Crash h w
crash_done None h w = refl
crash_done (Some host) h w = refl

boot_done : (o : Option Host) (h : HostId) (w : Network) → boots h o w ≡ done_by o deed.Boot h w
boot_done None h w = refl
boot_done (Some host) h w = refl

-- a host that is down does nothing but boot
pub not_booted : (d : Deed) (h : HostId) (host : Host) (w : Network) → (d ≡ deed.Boot → ⊥) → done_down d h host w ≡ seeing (seen.Down h) w
not_booted (deed.Take e) h host w other = refl
not_booted deed.Finish h host w other = refl
not_booted deed.Crash h host w other = refl
not_booted deed.Boot h host w other = absurd (other refl)

-- What comes to a host by an event is what happens then, and is within its limits where the event
-- is and the network is in order.
pub record Means (a : Act) (w : Network) (p : HostId × Deed) : Type 0 where
  pub happens : happens a w ≡ done p.1 p.0 w
  pub sane : is_sane_act a ≡ true → (site : List (List ℕ)) → IsInOrderAll site w → IsSaneFor (length site) p.1

abbrev MeansSome : Act → Network → Option (HostId × Deed) → Type 0
MeansSome a w None = Unit {0}
MeansSome a w (Some p) = Means a w p

means_numbered : (k : ℕ) (w : Network) (o : Option Message) → packet_at k w ≡ o → MeansSome (Delivers k) w (arrival o w.now)
means_numbered k w None is = tt
means_numbered k w (Some m) is = record {
  happens = ap (λ o. delivers (Some k) o w) is ∙ takes_done m.to (event.Arrived w.now m) w;
  sane = λ _ site order. numbered_sane (is_sane_message (length site)) k w m order.packets is;
}

means_newest : (a b : HostId) (w : Network) (o : Option Message) → newest_between a b w ≡ o → MeansSome (Newest a b) w (arrival o w.now)
means_newest a b w None is = tt
means_newest a b w (Some m) is = record {
  happens = ap (λ o. delivers None o w) is ∙ takes_done m.to (event.Arrived w.now m) w;
  sane = λ _ site order. newest_sane (is_sane_message (length site)) a b w m order.packets is;
}

means_all : (a : Act) (w : Network) → MeansSome a w (deed_of a w)
means_all (Asks h user c) w = record { happens = takes_done h (event.Ask w.now 0 0 user c) w; sane = λ is site order. is }
means_all (Ends h id start status output error) w = record {
  happens = takes_done h (event.Ended w.now 0 id start status output error) w;
  sane =
      λ is site order. is;
}
means_all (Finishes h) w = record { happens = finish_done (host_of h w) h w; sane = λ is site order. tt }
means_all (Fails h id start) w = record { happens = takes_done h (event.Unlaunched w.now id start) w; sane = λ is site order. refl }
means_all (Writes h file) w = record { happens = takes_done h (event.Written w.now file) w; sane = λ is site order. refl }
means_all (Leaves h file) w = record { happens = takes_done h (event.Unwritten w.now file) w; sane = λ is site order. refl }
means_all (Delivers k) w = means_numbered k w (packet_at k w) refl
means_all (Newest a b) w = means_newest a b w (newest_between a b w) refl
means_all (Ticks h) w = record { happens = takes_done h (event.Tick w.now) w; sane = λ is site order. refl }
means_all (Clock moment) w = tt
means_all (Fuse h disk calls tear) w = tt
means_all (Crashes h) w = record { happens = crash_done (host_of h w) h w; sane = λ is site order. tt }
means_all (Boots h) w = record { happens = boot_done (host_of h w) h w; sane = λ is site order. tt }
means_all Shows w = tt

pub means : (a : Act) (w : Network) (p : HostId × Deed) → deed_of a w ≡ Some p → Means a w p
means a w p e = subst (MeansSome a w) e (means_all a w)

-- what comes to a host of a world that stands for the network may come to it
pub ready_by : (a : Act) (world : World) (p : HostId × Deed) (site : List (List ℕ)) (network : Network) → deed_of a network ≡ Some p → is_sane_act a ≡ true
    → IsInOrderAll site network → IsWorld world network → IsReady world p.1
ready_by a world p site network e is order stands =
    record { site = site; network = network; order = order; stands = stands; sane = (means a network p e).sane is site order }
