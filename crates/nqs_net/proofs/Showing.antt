-- Reads of disks change nothing, and tell the states of the hosts.
use Rattle.std.proofs.Common.{◌≡◌, ℕ, zero, suc, ◌<◌, ◌≤◌, List, [], ◌∷◌, ◌++◌, map, take, length, get_or, slice_get, set, refl, sym, ap, subst, ◌∙◌}
use Rattle.std.proofs.Common.{arith}
use Rattle.std.proofs.lemmas.Bool.{leb-true}
use Rattle.nqs_base.specs.Extents.{extent_bytes}
use Rattle.nqs_state.specs.State.{Plain, content}
use Rattle.nqs_state.specs.declared.state.HostState.{HostState}
use Rattle.nqs_base.specs.declared.tear.Tear.{Tear}
use Rattle.nqs_types.specs.declared.world.Which.{Which}
use Rattle.nqs_types.specs.declared.world.Which.TheVariants.{Root, Spool}
use Rattle.nqs_outside.specs.History.{content as bytes_now}
use Rattle.nqs_disk.specs.MemDisk as mem
use Rattle.nqs_disk.specs.contracts.mem_disk.MemDiskDisk.TheImpl.{ghosts}
use Rattle.nqs_disk.specs.declared.mem_disk.MemDisk.{MemDisk}
use Rattle.nqs_rules.specs.Plain.{map_state}
use Rattle.nqs_rules.specs.Run.{states_of}
use Rattle.nqs_rules.specs.World.{Host, World as Network}
use Rattle.nqs_rules.proofs.StateFacts.{sites_are}
use Rattle.nqs_laws.specs.Words.{IsInOrderAll}
use Rattle.nqs_store.specs.Active.{IsActive}
use Rattle.nqs_store.specs.Disks.{histories_of, failing_of, contents}
use Rattle.nqs_store.specs.Images.{IsTold, IsToldHost}
use Rattle.nqs_store.specs.Told.{Host as Told}
use Rattle.nqs_store.specs.Sound.{IsSoundHost}
use Rattle.nqs_store.specs.Stores as store
use Rattle.nqs_store.specs.declared.disks.Disks.{Disks}
use Rattle.nqs_node.specs.Nodes.{history_of, fails_of, active_of, content_of, Tells}
use Rattle.nqs_node.specs.declared.node.Node.{Node}
use Rattle.nqs_rules_table.specs.Standing.{StandsFor, StandForEach}
use Rattle.nqs_net.specs.Worlds.{IsUp, IsDown, IsSlot, AreSlots, active_in}
use Rattle.nqs_net.specs.declared.slot.Slot.{Slot}
use Rattle.nqs_net.proofs.Burns.{same_disks}
use Rattle.nqs_net.proofs.Coming.{come_still}

pub same_up : (old now : Node MemDisk ghosts) (host : Host) → ((which : Which) → history_of now which ≡ history_of old which)
    → ((which : Which) (i : ℕ) → fails_of now which i ≡ fails_of old which i)
    → content_of now ≡ content_of old → active_of now ≡ active_of old → ((s : Plain) → Tells old s → Tells now s) → IsUp old host → IsUp now host
same_up old now host same fuse state is_active tells up = record {
  up = up.up;
  tells = tells host.state up.tells;
  sound = subst IsSoundHost (sym state) up.sound;
  disks = same_disks host (fails_of old) (fails_of now) (history_of old) (history_of now) up.disks fuse same;
  root = ap bytes_now (same Root) ∙ up.root;
  active = is_active ∙ up.active;
  past = come_still (history_of old) (history_of now) (active_in host) host.told host.state same up.past;
}

pub up_stands : (node : Node MemDisk ghosts) (state : HostState) (host : Host) → content state ≡ content_of node → IsUp node host → StandsFor state host.state
up_stands node state host told up = (store.bytes_of node.store, ap (map_state (store.bytes_of node.store)) told ∙ up.tells.is)

pub same_down : (old now : Disks MemDisk) (host : Host) → ((which : Which) → histories_of mem.history_of now which ≡ histories_of mem.history_of old which)
    → ((which : Which) (i : ℕ) → failing_of mem.fails_of now which i ≡ failing_of mem.fails_of old which i) → IsDown old host → IsDown now host
same_down old now host same fuse down = record {
  down = down.down;
  told = down.told;
  tells = subst (λ h. IsTold (contents h) host.state) here down.tells;
  disks = same_disks host (failing_of mem.fails_of old) (failing_of mem.fails_of now) (histories_of mem.history_of old)
      (histories_of mem.history_of now) down.disks fuse same;
  root = ap bytes_now (same Root) ∙ down.root;
  active = subst (λ h. IsActive (contents h) (active_in host)) here down.active;
  calls = λ which. ap (λ h. h.calls) (same which) ∙ down.calls which;
}
  where
    here : histories_of mem.history_of old ≡ histories_of mem.history_of now
    here = λ j which. sym (same which) j

pub down_stands : (disks : Disks MemDisk) (state : HostState) (host : Host)
    → ((told_host : Told) → IsToldHost (contents (histories_of mem.history_of disks)) told_host → content state ≡ told_host)
    → IsDown disks host → StandsFor state host.state
down_stands disks state host read down =
    let bytes = extent_bytes (bytes_now (histories_of mem.history_of disks Spool)) in
    (bytes, ap (map_state bytes) (read down.tells.host down.tells.is) ∙ down.tells.bytes)

-- slots at a place

-- the host of a place, and what follows where another slot that stands for it is put there
pub record IsAtPlace (slots : List Slot) (tears : List Tear) (hosts : List Host) (i : ℕ) (d : Slot) : Type 0 where
  pub host : Host
  pub stands : IsSlot (get_or slots i d) host
  pub put : (next : Slot) → IsSlot next host → AreSlots (set slots i next) tears hosts
  pub more : take (suc i) (map (λ h. h.state) hosts) ≡ take i (map (λ h. h.state) hosts) ++ host.state ∷ []

pub at_place : (slots : List Slot) (tears : List Tear) (hosts : List Host) (i : ℕ) (d : Slot) → i < length slots → AreSlots slots tears hosts
    → IsAtPlace slots tears hosts i d
at_place [] tears hosts i d lt are = absurd (let no : ⊥ = omega (arith, lt) in no)
at_place (s ∷ ss) [] hosts i d lt are = absurd are
at_place (s ∷ ss) (t ∷ ts) [] i d lt are = absurd are
at_place (s ∷ ss) (t ∷ ts) (h ∷ hs) zero d lt are = record { host = h; stands = are.0; put = λ next stands. (stands, are.1, are.2); more = refl }
at_place (s ∷ ss) (t ∷ ts) (h ∷ hs) (suc i) d lt are =
    let rest = at_place ss ts hs i d (omega (arith, lt)) are.2 in
    record { host = rest.host; stands = rest.stands; put = λ next stands. (are.0, are.1, rest.put next stands); more = ap (λ l. h.state ∷ l) rest.more }

pub as_many : (slots : List Slot) (tears : List Tear) (hosts : List Host) → AreSlots slots tears hosts → length (map (λ h. h.state) hosts) ≡ length slots
as_many [] [] [] are = refl
as_many [] [] (h ∷ hs) are = absurd are
as_many [] (t ∷ ts) hosts are = absurd are
as_many (s ∷ ss) [] hosts are = absurd are
as_many (s ∷ ss) (t ∷ ts) [] are = absurd are
as_many (s ∷ ss) (t ∷ ts) (h ∷ hs) are = ap suc (as_many ss ts hs are.2)

-- one more
pub stand_more : (states : List HostState) (plains : List Plain) (state : HostState) (plain : Plain) → StandForEach states plains → StandsFor state plain
    → StandForEach (states ++ state ∷ []) (plains ++ plain ∷ [])
stand_more [] [] state plain each one = (one, tt)
stand_more [] (p ∷ ps) state plain each one = absurd each
stand_more (s ∷ ss) [] state plain each one = absurd each
stand_more (s ∷ ss) (p ∷ ps) state plain each one = (each.0, stand_more ss ps state plain each.1 one)

pub as_many_stand : (states : List HostState) (plains : List Plain) → StandForEach states plains → length states ≡ length plains
as_many_stand [] [] each = refl
as_many_stand [] (p ∷ ps) each = absurd each
as_many_stand (s ∷ ss) [] each = absurd each
as_many_stand (s ∷ ss) (p ∷ ps) each = ap suc (as_many_stand ss ps each.1)

-- a network in order has 16 hosts at most
pub few_hosts : (site : List (List ℕ)) (network : Network) → IsInOrderAll site network → length (states_of network) ≤ 16
few_hosts site network order = by (states_of network) refl
  where
    by : (states : List Plain) → states_of network ≡ states → length states ≤ 16
    by [] is = omega arith
    by (s ∷ ss) is =
        let right = order.hosts 0 s (ap (λ l. slice_get l 0) is) in
        let few = sites_are s right.order.order.site in
        omega (arith, leb-true (length s.site) 16 few.few, ap length right.names, order.count, ap length is)
