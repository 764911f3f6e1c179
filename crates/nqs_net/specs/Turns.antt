-- What something that one host does makes of a network.
use Rattle.std.specs.Prelude.{◌≡◌, ◌⊎◌, ℕ, Bool, true, false, IsTrue, List, [], ◌++◌, map, Some}
use Rattle.nqs_types.specs.declared.event.Output.{Output}
use Rattle.nqs_disk.specs.contracts.mem_disk.MemDiskDisk.TheImpl.{ghosts}
use Rattle.nqs_node.specs.Carried.{after_kept, IsMade, IsCutBy, IsBlown, IsOneOrOther}
use Rattle.nqs_node.specs.Nodes.{history_of, fails_of, is_starved, active_of, content_of, Tells}
use Rattle.nqs_node.specs.declared.node.Node.{Node}
use Rattle.nqs_rules.specs.Measure.{starts_left}
use Rattle.nqs_rules.specs.Starts.{after_step}
use Rattle.nqs_rules.specs.Stepped.{Stepped, shown}
use Rattle.nqs_net.specs.Pasts.{HasCome}
use Rattle.nqs_net.specs.Worlds.{AreDisks, active_in}
use Rattle.nqs_types.specs.declared.ids.HostId.{HostId}
use Rattle.nqs_types.specs.declared.message.Message.{Message}
use Rattle.nqs_base.specs.declared.tear.Tear.{Tear}
use Rattle.nqs_types.specs.declared.world.Seen.{Seen}
use Rattle.nqs_types.specs.declared.world.Which.{Which}
use Rattle.nqs_types.specs.declared.world.Which.TheVariants.{Root}
use Rattle.nqs_outside.specs.History.{History, state, content, IsImage, IsQuiet}
use Rattle.nqs_disk.specs.MemDisk as mem
use Rattle.nqs_disk.specs.Torn.{torn}
use Rattle.nqs_disk.specs.declared.mem_disk.MemDisk.{MemDisk}
use Rattle.nqs_rules.specs.Edits.{change_at}
use Rattle.nqs_rules.specs.World.{Host, Ran, seen_of, World as Network, host_of, all_starts, then_ran, unseen}
use Rattle.nqs_store.specs.Disks.{histories_of, failing_of}
use Rattle.nqs_store.specs.declared.disks.Disks.{Disks}
use Rattle.nqs_net.specs.declared.slot.Slot.{Slot}
use Rattle.nqs_net.specs.declared.slot.Slot.TheVariants.{Up, Down}
use Rattle.nqs_net.specs.declared.turn.Turn.{Turn}

-- The disks after a stop: what the tear leaves of them, before any call and with no fuse.
pub record IsTorn (tear : Tear) (now : Which → History) (left : Disks MemDisk) : Type 0 where
  pub histories : (which : Which) → histories_of mem.history_of left which ≡ record { start = torn tear (state (now which)); calls = [] }
  pub images : (which : Which) → IsImage (state (now which)) (torn tear (state (now which)))
  pub fuses : (which : Which) (i : ℕ) → failing_of mem.fails_of left which i ≡ false

-- a host that was stopped
abbrev pub IsStopped : Tear → (Which → History) → Slot → Type 0
IsStopped tear now (Up up) = ⊥
IsStopped tear now (Down down) = IsTorn tear now down.disks.value

-- a host that is down
abbrev pub IsDownSlot : Slot → Type 0
IsDownSlot (Up up) = ⊥
IsDownSlot (Down down) = Unit {0}

-- how many starts there may still be: none at a host that is down
abbrev pub starts_in : Slot → ℕ
starts_in (Up up) = starts_left (content_of up.node.value)
starts_in (Down down) = 0

-- what a call of a node did for a step, by whether it was made: else a failed call of a disk
-- stopped the node
abbrev pub Ended : Host → Stepped (List ℕ) → (Which → ℕ → Bool) → (Which → History) → Node MemDisk ghosts → List Output → Bool → Type 0
Ended host x fails old node out true = Tells node (after_step x host.state) × IsMade (active_in host) fails old (history_of node) x.change
    × (out ≡ map shown x.outputs) × (active_of node ≡ after_kept x.change (active_in host))
Ended host x fails old node out false = (which : Which) × (IsTrue (is_starved node which)
    ⊎ (IsBlown (fails which) (old which) ⊎ IsCutBy (active_in host) fails old (history_of node) x.change host.state which))

-- A node whose disks had done this, with these calls to fail, was to take a step of this host. Its
-- root held what the host says. Until its last call, whatever images the disks may leave tell the
-- state before the step or the one after it.
pub record IsTaken (host : Host) (x : Stepped (List ℕ)) (fails : Which → ℕ → Bool) (old : Which → History) (node : Node MemDisk ghosts) (out : List Output)
    (took : Bool) : Type 0 where
  pub up : host.up ≡ true
  pub disks : AreDisks host old fails
  pub root : content (old Root) ≡ host.root
  pub quiet : IsQuiet (old Root)
  pub past : HasCome old (active_in host) host.told host.state
  pub moments : IsOneOrOther (active_in host) old (history_of node) x.change host.state
  pub same : (which : Which) (i : ℕ) → fails_of node which i ≡ fails which i
  pub ended : Ended host x fails old node out took

-- the host at a place, with its tear and the packets of the network
pub record Faces (h : HostId) (host : Host) (by : Tear) (sent : List Message) (w : Network) : Type 0 where
  pub there : host_of h w ≡ Some host
  pub tear : by ≡ host.tear
  pub packets : sent ≡ w.packets

-- it is this host's turn
abbrev pub IsTurnOf : Turn → Host → Network → Type 0
IsTurnOf turn host w = Faces turn.me host turn.tear turn.packets.now.items w

-- the same turn later: its host, tear and moment are the same, and so are the lists that it adds to
pub record IsSameTurn (old new : Turn) : Type 0 where
  pub me : new.me ≡ old.me
  pub tear : new.tear ≡ old.tear
  pub now : new.now ≡ old.now
  pub packets : new.packets.ghost_name ≡ old.packets.ghost_name
  pub seen : new.seen.ghost_name ≡ old.seen.ghost_name

-- there is a host at the place, and it has P
pub record IsAt (h : HostId) (P : Host → Type 0) (tear : Tear) (packets : List Message) (w : Network) : Type 0 where
  pub host : Host
  pub stands : P host
  pub faces : Faces h host tear packets w

-- the same but for the host at a place and the packets
pub record IsSameBut (h : HostId) (w v : Network) : Type 0 where
  pub hosts : (host : Host) → change_at h.0 (λ _. host) v.hosts ≡ change_at h.0 (λ _. host) w.hosts
  pub site : v.site ≡ w.site
  pub now : v.now ≡ w.now

-- What was done at a place: the host there has P now, the others are as they were, and just what
-- was done was seen.
pub record Turns (h : HostId) (P : Host → Type 0) (tear : Tear) (packets : List Message) (before after : List Seen) (w : Network) (r : Ran) : Type 0 where
  pub at : IsAt h P tear packets r.world
  pub rest : IsSameBut h w r.world
  pub seen : after ≡ before ++ seen_of r

-- The next start was made, if there was one: the others follow. Where there are no more, none
-- follows.
pub record Starts (h : HostId) (more : Bool) (P : Host → Type 0) (tear : Tear) (packets : List Message) (before after : List Seen) (w : Network) : Type 0 where
  pub ran : Ran
  pub turn : Turns h P tear packets before after w ran
  pub goes_on : all_starts h w ≡ then_ran ran (all_starts h)
  pub last : more ≡ false → all_starts h ran.world ≡ unseen ran.world
