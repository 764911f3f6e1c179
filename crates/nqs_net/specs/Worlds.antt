-- A world in memory, and the pure machine that it stands for.
use Rattle.std.specs.Prelude.{◌≡◌, ℕ, ◌+◌, ◌-◌, ◌≤◌, nat_le, Bool, true, false, List, [], ◌∷◌, Option, None, Some}
use Rattle.nqs_types.specs.declared.world.Which.{Which}
use Rattle.nqs_types.specs.declared.world.Which.TheVariants.{Root}
use Rattle.nqs_base.specs.declared.tear.Tear.{Tear}
use Rattle.nqs_outside.specs.History.{Call, write, sync, History, content, moment}
use Rattle.nqs_disk.specs.MemDisk as mem
use Rattle.nqs_disk.specs.declared.mem_disk.MemDisk.{MemDisk}
use Rattle.nqs_rules.specs.Journals.{is_second}
use Rattle.nqs_rules.specs.World.{Host, World as Network, of_disk}
use Rattle.nqs_store.specs.Active.{Active, IsActive}
use Rattle.nqs_store.specs.Disks.{histories_of, failing_of, contents}
use Rattle.nqs_store.specs.declared.disks.Disks.{Disks}
use Rattle.nqs_store.specs.Images.{IsTold}
use Rattle.nqs_store.specs.Sound.{IsSoundHost}
use Rattle.nqs_node.specs.Nodes.{history_of, fails_of, active_of, content_of, Tells}
use Rattle.nqs_disk.specs.contracts.mem_disk.MemDiskDisk.TheImpl.{ghosts}
use Rattle.nqs_node.specs.declared.node.Node.{Node}
use Rattle.nqs_net.specs.Pasts.{HasCome}
use Rattle.nqs_net.specs.declared.slot.Slot.{Slot}
use Rattle.nqs_net.specs.declared.slot.Slot.TheVariants.{Up, Down}
use Rattle.nqs_net.specs.declared.world.World.{World}

-- the active journal of a host
abbrev pub active_in : Host → Active
active_in host = record { second = is_second host.root; records = host.records; is_old = host.is_old }

-- After so many calls, this many are left until one is to fail, and each later one.
abbrev pub IsFuse : Option ℕ → ℕ → (ℕ → Bool) → Type 0
IsFuse None made fails = (i : ℕ) → fails i ≡ false
IsFuse (Some left) made fails = (1 ≤ left) × ((i : ℕ) → fails i ≡ nat_le (made + (left - 1)) i)

-- a write and a sync in turn, each answered Ok
abbrev pub AreInTurn : List Call → Type 0
AreInTurn [] = Unit {0}
AreInTurn (write place bytes true ∷ sync true ∷ calls) = AreInTurn calls
AreInTurn calls = ⊥

-- so many calls, and so many left until its fuse
pub record IsDisk (left : Option ℕ) (made : ℕ) (h : History) (fails : ℕ → Bool) : Type 0 where
  pub fuse : IsFuse left (moment h) fails
  pub count : moment h ≡ made
  pub turn : AreInTurn h.calls

-- each disk has made as many calls as the host says, and has the fuse that it says
abbrev pub AreDisks : Host → (Which → History) → (Which → ℕ → Bool) → Type 0
AreDisks host histories fails = (which : Which) → IsDisk (of_disk which host.fuses) (of_disk which host.calls) (histories which) (fails which)

-- A node that is up. Its root holds what the host says, and its active journal is the host's. At
-- each moment since its disks were new or torn, whatever images they may leave then tell the state
-- before the change that is being kept or the one after it.
pub record IsUp (node : Node MemDisk ghosts) (host : Host) : Type 0 where
  pub up : host.up ≡ true
  pub tells : Tells node host.state
  pub sound : IsSoundHost (content_of node)
  pub disks : AreDisks host (history_of node) (fails_of node)
  pub root : content (history_of node Root) ≡ host.root
  pub active : active_of node ≡ active_in host
  pub past : HasCome (history_of node) (active_in host) host.told host.state

-- The disks of a host that is down. No call was made of them, and they told no other state.
pub record IsDown (left : Disks MemDisk) (host : Host) : Type 0 where
  pub down : host.up ≡ false
  pub told : host.told ≡ []
  pub tells : IsTold (contents (histories_of mem.history_of left)) host.state
  pub disks : AreDisks host (histories_of mem.history_of left) (failing_of mem.fails_of left)
  pub root : content (histories_of mem.history_of left Root) ≡ host.root
  pub active : IsActive (contents (histories_of mem.history_of left)) (active_in host)
  pub calls : (which : Which) → (histories_of mem.history_of left which).calls ≡ []

-- a slot, up or down, stands for this host
abbrev pub IsSlot : Slot → Host → Type 0
IsSlot (Up up) host = IsUp up.node.value host
IsSlot (Down down) host = IsDown down.disks.value host

-- each slot and its tear stand for the host of their place
abbrev pub AreSlots : List Slot → List Tear → List Host → Type 0
AreSlots [] [] [] = Unit {0}
AreSlots (slot ∷ slots) (tear ∷ tears) (host ∷ hosts) = IsSlot slot host × (tear ≡ host.tear) × AreSlots slots tears hosts
AreSlots slots tears hosts = ⊥

-- it stands for this network
pub record IsWorld (world : World) (network : Network) : Type 0 where
  pub site : world.site ≡ network.site
  pub hosts : AreSlots world.slots.items world.tears.items network.hosts
  pub packets : world.packets.items ≡ network.packets
  pub now : world.now ≡ network.now
