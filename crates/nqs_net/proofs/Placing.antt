-- One slot of a world is changed, and with it the host at its place.
use Rattle.std.proofs.Common.{◌≡◌, ℕ, zero, suc, ◌<◌, ◌≤◌, List, [], ◌∷◌, ◌++◌, length, get_or, slice_get, None, Some, refl, sym, ap, subst, ◌∙◌, arith}
use Rattle.std.specs.List.{insert, remove}
use Rattle.std.proofs.lemmas.Option.{slice_get-map}
use Rattle.std.specs.Option.{option_map}
use Rattle.nqs_types.specs.declared.ids.HostId.{HostId}
use Rattle.nqs_types.specs.declared.message.Message.{Message}
use Rattle.nqs_base.specs.declared.tear.Tear.{Tear}
use Rattle.nqs_types.specs.declared.world.Seen.{Seen}
use Rattle.nqs_rules.specs.Edits.{change_at}
use Rattle.nqs_rules.specs.World.{Host, World as Network, seen_of}
use Rattle.nqs_laws.proofs.Frame.{put-same}
use Rattle.nqs_net.specs.Lists.{GrowsByFront}
use Rattle.nqs_net.specs.Followed.{disks_in, FollowEach, StandsAfter}
use Rattle.nqs_net.specs.Worlds.{IsSlot, AreSlots, IsWorld}
use Rattle.nqs_net.specs.Turns.{Faces, IsAt, IsSameBut, Turns}
use Rattle.nqs_net.specs.Deeds.{done, done_by, done_at, IsSaneFor, IsSaneAt, IsReady, MayBoot}
use Rattle.nqs_net.specs.declared.deed.Deed.{Deed}
use Rattle.nqs_net.specs.declared.slot.Slot.{Slot}
use Rattle.nqs_net.specs.declared.slot.Slot.TheVariants.{Up, Down}
use Rattle.nqs_net.specs.declared.world.World.{World}
use Rattle.nqs_net.proofs.Following.{turn_stands, follow_put}

pub tears_as_long : (slots : List Slot) (tears : List Tear) (hosts : List Host) → AreSlots slots tears hosts → length tears ≡ length slots
tears_as_long [] [] [] are = refl
tears_as_long [] [] (host ∷ hosts) are = absurd are
tears_as_long [] (tear ∷ tears) hosts are = absurd are
tears_as_long (slot ∷ slots) [] hosts are = absurd are
tears_as_long (slot ∷ slots) (tear ∷ tears) [] are = absurd are
tears_as_long (slot ∷ slots) (tear ∷ tears) (host ∷ hosts) are = ap suc (tears_as_long slots tears hosts are.2)

pub no_host : (slots : List Slot) (tears : List Tear) (hosts : List Host) (n : ℕ) → AreSlots slots tears hosts → length slots ≤ n → slice_get hosts n ≡ None
no_host [] [] [] n are past = refl
no_host [] [] (host ∷ hosts) n are past = absurd are
no_host [] (tear ∷ tears) hosts n are past = absurd are
no_host (slot ∷ slots) [] hosts n are past = absurd are
no_host (slot ∷ slots) (tear ∷ tears) [] n are past = absurd are
no_host (slot ∷ slots) (tear ∷ tears) (host ∷ hosts) zero are past = absurd (omega (arith, past))
no_host (slot ∷ slots) (tear ∷ tears) (host ∷ hosts) (suc n) are past = no_host slots tears hosts n are.2 (omega (arith, past))

-- the host at a place
pub record Placed (slot : Slot) (tear : Tear) (hosts : List Host) (n : ℕ) : Type 0 where
  pub host : Host
  pub there : slice_get hosts n ≡ Some host
  pub stands : IsSlot slot host
  pub same : tear ≡ host.tear

pub slot_at : (slots : List Slot) (tears : List Tear) (hosts : List Host) (n : ℕ) (slot : Slot) (tear : Tear) → AreSlots slots tears hosts → n < length slots
    → slot ≡ get_or slots n slot → tear ≡ get_or tears n tear → Placed slot tear hosts n
slot_at [] tears hosts n slot tear are within here also = absurd (omega (arith, within))
slot_at (x ∷ slots) [] hosts n slot tear are within here also = absurd are
slot_at (x ∷ slots) (t ∷ tears) [] n slot tear are within here also = absurd are
slot_at (x ∷ slots) (t ∷ tears) (host ∷ hosts) zero slot tear are within here also =
    record { host = host; there = refl; stands = subst (λ s. IsSlot s host) (sym here) are.0; same = also ∙ are.1 }
slot_at (x ∷ slots) (t ∷ tears) (host ∷ hosts) (suc n) slot tear are within here also =
    let at = slot_at slots tears hosts n slot tear are.2 (omega (arith, within)) here also in
    record { host = at.host; there = at.there; stands = at.stands; same = at.same }

pub put_slot : (slots : List Slot) (tears : List Tear) (hosts : List Host) (n : ℕ) (slot : Slot) (tear : Tear) (host : Host) → AreSlots slots tears hosts
    → n < length slots
    → tear ≡ get_or tears n tear → tear ≡ host.tear → IsSlot slot host → AreSlots (insert (remove slots n) n slot) tears (change_at n (λ _. host) hosts)
put_slot [] tears hosts n slot tear host are within also same is = absurd (omega (arith, within))
put_slot (x ∷ slots) [] hosts n slot tear host are within also same is = absurd are
put_slot (x ∷ slots) (t ∷ tears) [] n slot tear host are within also same is = absurd are
put_slot (x ∷ slots) (t ∷ tears) (old ∷ hosts) zero slot tear host are within also same is = (is, sym also ∙ same, are.2)
put_slot (x ∷ slots) (t ∷ tears) (old ∷ hosts) (suc n) slot tear host are within also same is =
    (are.0, are.1, put_slot slots tears hosts n slot tear host are.2 (omega (arith, within)) also same is)

-- what was done at a place stands for what was done in the network
pub turned_slots : (h : HostId) (w r : Network) (slots : List Slot) (tears : List Tear) (slot : Slot) (tear : Tear) (packets : List Message)
    → AreSlots slots tears w.hosts → h.0 < length slots
    → tear ≡ get_or tears h.0 tear → IsAt h (IsSlot slot) tear packets r → IsSameBut h w r → AreSlots (insert (remove slots h.0) h.0 slot) tears r.hosts
turned_slots h w r slots tears slot tear packets are within also at rest =
    subst (AreSlots (insert (remove slots h.0) h.0 slot) tears) (sym (rest.hosts at.host) ∙ put-same h.0 at.host r.hosts at.faces.there)
    (put_slot slots tears w.hosts h.0 slot tear at.host are within also at.faces.tear at.stands)

-- what is within its limits in the network is so at each of its hosts
pub sane_at : (world : World) (deed : Deed) (n : ℕ) (slot : Slot) (tear : Tear) → IsReady world deed → n < length world.slots.items
    → slot ≡ get_or world.slots.items n slot → tear ≡ get_or world.tears.items n tear → IsSaneAt deed slot
sane_at world deed n slot tear ready within here also =
    let at = slot_at world.slots.items world.tears.items ready.network.hosts n slot tear ready.stands.hosts within here also in
    by slot at.host at.stands (ready.order.hosts n at.host.state (slice_get-map (λ (x : Host). x.state) ready.network.hosts n
    ∙ ap (option_map (λ (x : Host). x.state)) at.there)).names
  where
    by : (s : Slot) (host : Host) → IsSlot s host → host.state.site ≡ ready.site → IsSaneAt deed s
    by (Up up) host is names = subst (λ l. IsSaneFor (length l) deed) (sym (ap (λ s. s.site) is.tells.is ∙ names)) ready.sane
    by (Down down) host is names = tt

-- the disks of a host of the network that is down tell it
pub boots_at : (world : World) (deed : Deed) (n : ℕ) (slot : Slot) (tear : Tear) → IsReady world deed → n < length world.slots.items
    → slot ≡ get_or world.slots.items n slot → tear ≡ get_or world.tears.items n tear → MayBoot slot
boots_at world deed n slot tear ready within here also =
    let at = slot_at world.slots.items world.tears.items ready.network.hosts n slot tear ready.stands.hosts within here also in
    by slot at.host at.stands
  where
    by : (s : Slot) (host : Host) → IsSlot s host → MayBoot s
    by (Up up) host is = tt
    by (Down down) host is = (host, is)

-- a slot was taken out, and what it became put back
module _ (world : World) (h : HostId) (deed : Deed) (old new : Slot) (tear : Tear) (packets : List Message) (before after : List Seen)
    (within : h.0 < length world.slots.items)
    (here : old ≡ get_or world.slots.items h.0 old) (also : tear ≡ get_or world.tears.items h.0 tear)
    (turns : (w : Network) (host : Host) → Faces h host tear world.packets.items w → IsSlot old host → w.now ≡ world.now
    → Turns h (StandsAfter tear (disks_in old) new) tear packets before after w (done_at deed h host w))
    (network : Network) (stands : IsWorld world network) where
  place : Placed old tear network.hosts h.0
  place = slot_at world.slots.items world.tears.items network.hosts h.0 old tear stands.hosts within here also

  turned : Turns h (StandsAfter tear (disks_in old) new) tear packets before after network (done deed h network)
  turned = subst (λ o. Turns h (StandsAfter tear (disks_in old) new) tear packets before after network (done_by o deed h network)) (sym place.there)
      (turns network place.host (record { there = place.there; tear = place.same; packets = stands.packets }) place.stands (sym stands.now))

  pub acted_seen : after ≡ before ++ seen_of (done deed h network)
  acted_seen = turned.seen

  pub acted_follow : (nexts : List Slot) → nexts ≡ insert (remove world.slots.items h.0) h.0 new → FollowEach world.tears.items world.slots.items nexts
  acted_follow nexts slots =
      subst (FollowEach world.tears.items world.slots.items) (sym slots)
      (follow_put world.tears.items world.slots.items h.0 old new tear (tears_as_long world.slots.items world.tears.items network.hosts stands.hosts) within
      here also turned.at.stands.follows)

  pub acted_world : (next : World) → next.site ≡ world.site → next.tears ≡ world.tears → next.now ≡ world.now → next.packets.items ≡ packets
      → next.slots.items ≡ insert (remove world.slots.items h.0) h.0 new
      → IsWorld next (done deed h network).world
  acted_world next site tears now sent slots = record {
    site = site ∙ stands.site ∙ sym turned.rest.site;
    hosts = subst (λ l. AreSlots l next.tears.items (done deed h network).world.hosts) (sym slots)
        (subst (λ l. AreSlots (insert (remove world.slots.items h.0) h.0 new) l (done deed h network).world.hosts) (ap (λ v. v.items) (sym tears))
        (turned_slots h network (done deed h network).world world.slots.items world.tears.items new tear packets stands.hosts within also
        (turn_stands h tear packets before after network tear (disks_in old) new (done deed h network) turned).at turned.rest));
    packets = sent ∙ turned.at.faces.packets;
    now = now ∙ stands.now ∙ sym turned.rest.now;
  }

-- something failed there, after a front of it was seen
module _ (world : World) (h : HostId) (deed : Deed) (old : Slot) (tear : Tear) (before after : List Seen) (within : h.0 < length world.slots.items)
    (here : old ≡ get_or world.slots.items h.0 old) (also : tear ≡ get_or world.tears.items h.0 tear)
    (fronts : (w : Network) (host : Host) → Faces h host tear world.packets.items w → IsSlot old host → w.now ≡ world.now
    → GrowsByFront before after (seen_of (done_at deed h host w)))
    (network : Network) (stands : IsWorld world network) where
  pub acted_front : GrowsByFront before after (seen_of (done deed h network))
  acted_front =
      let place = slot_at world.slots.items world.tears.items network.hosts h.0 old tear stands.hosts within here also in
      subst (λ o. GrowsByFront before after (seen_of (done_by o deed h network))) (sym place.there)
      (fronts network place.host (record { there = place.there; tear = place.same; packets = stands.packets }) place.stands (sym stands.now))
