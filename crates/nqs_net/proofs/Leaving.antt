-- What hosts leave, from what is known of their slots.
use Rattle.std.proofs.Common.{◌≡◌, ◌∙◌, List, [], ◌∷◌, ◌++◌, sym, ap, subst}
use Rattle.nqs_types.specs.declared.world.Which.{Which}
use Rattle.nqs_types.specs.declared.world.Which.TheVariants.{Root}
use Rattle.nqs_base.specs.declared.tear.Tear.{Tear}
use Rattle.nqs_outside.specs.History.{History, content}
use Rattle.nqs_disk.specs.MemDisk as mem
use Rattle.nqs_disk.specs.contracts.mem_disk.MemDiskDisk.TheImpl.{ghosts}
use Rattle.nqs_disk.specs.declared.mem_disk.MemDisk.{MemDisk}
use Rattle.nqs_rules.specs.World.{Host}
use Rattle.nqs_store.specs.Commits.{LeavesHost}
use Rattle.nqs_store.specs.Disks.{disk_at, histories_of, failing_of}
use Rattle.nqs_store.specs.declared.disks.Disks.{Disks}
use Rattle.nqs_node.specs.Nodes.{disk_of, history_of, fails_of}
use Rattle.nqs_node.specs.declared.node.Node.{Node}
use Rattle.nqs_net.specs.Left.{IsLeft, AreLeft}
use Rattle.nqs_net.specs.Pasts.{HasCome}
use Rattle.nqs_net.specs.Worlds.{IsUp, IsDown, IsSlot, AreSlots, active_in}
use Rattle.nqs_net.specs.declared.slot.Slot.{Slot}
use Rattle.nqs_net.proofs.Burns.{same_disks}
use Rattle.nqs_net.proofs.Coming.{node_tells, down_tells, down_come}

pub up_left : (node : Node MemDisk ghosts) (left : Disks MemDisk) (host : Host) → ((which : Which) → disk_at which left ≡ disk_of which node) → IsUp node host
    → IsLeft left host
up_left node left host same up =
    let histories : histories_of mem.history_of left ≡ history_of node = λ j which. mem.history_of (same which j) in
    record {
      told = subst (λ h. LeavesHost h host.state (active_in host)) (sym histories)
          (subst (LeavesHost (history_of node) host.state) up.active (node_tells node host.state up.tells));
      root = ap (λ (h : Which → History). content (h Root)) histories ∙ up.root;
      disks = same_disks host (fails_of node) (failing_of mem.fails_of left) (history_of node) (histories_of mem.history_of left) up.disks
          (λ which i. ap (λ disk. mem.fails_of disk i) (same which)) (λ which. ap mem.history_of (same which));
      past = subst (λ h. HasCome h (active_in host) host.told host.state) (sym histories) up.past;
    }

pub down_left : (left : Disks MemDisk) (host : Host) → IsDown left host → IsLeft left host
down_left left host down = record {
  told = down_tells left host down;
  root = down.root;
  disks = down.disks;
  past = down_come left host down;
}

-- what the host of a slot leaves
abbrev pub Leaves : Slot → Disks MemDisk → Type 0
Leaves slot left = (host : Host) → IsSlot slot host → IsLeft left host

abbrev pub LeaveEach : List Slot → List (Disks MemDisk) → Type 0
LeaveEach [] [] = Unit {0}
LeaveEach (slot ∷ slots) (disks ∷ left) = Leaves slot disks × LeaveEach slots left
LeaveEach slots left = ⊥

-- one more
pub leave_more : (slots : List Slot) (left : List (Disks MemDisk)) (slot : Slot) (disks : Disks MemDisk) → LeaveEach slots left → Leaves slot disks
    → LeaveEach (slots ++ slot ∷ []) (left ++ disks ∷ [])
leave_more [] [] slot disks each one = (one, tt)
leave_more [] (d ∷ ds) slot disks each one = absurd each
leave_more (s ∷ ss) [] slot disks each one = absurd each
leave_more (s ∷ ss) (d ∷ ds) slot disks each one = (each.0, leave_more ss ds slot disks each.1 one)

-- all hosts of a world
pub all_left : (slots : List Slot) (tears : List Tear) (hosts : List Host) (left : List (Disks MemDisk)) → LeaveEach slots left → AreSlots slots tears hosts
    → AreLeft left hosts
all_left [] [] [] [] each are = tt
all_left [] [] [] (d ∷ ds) each are = absurd each
all_left [] [] (h ∷ hs) left each are = absurd are
all_left [] (t ∷ ts) hosts left each are = absurd are
all_left (s ∷ ss) [] hosts left each are = absurd are
all_left (s ∷ ss) (t ∷ ts) [] left each are = absurd are
all_left (s ∷ ss) (t ∷ ts) (h ∷ hs) [] each are = absurd each
all_left (s ∷ ss) (t ∷ ts) (h ∷ hs) (d ∷ ds) each are = (each.0 h are.0, all_left ss ts hs ds each.1 are.2)
