-- What hosts leave on their disks.
use Rattle.std.specs.Prelude.{◌≡◌, List, [], ◌∷◌}
use Rattle.nqs_types.specs.declared.world.Which.TheVariants.{Root}
use Rattle.nqs_outside.specs.History.{content}
use Rattle.nqs_disk.specs.MemDisk as mem
use Rattle.nqs_disk.specs.declared.mem_disk.MemDisk.{MemDisk}
use Rattle.nqs_rules.specs.World.{Host}
use Rattle.nqs_store.specs.Commits.{LeavesHost}
use Rattle.nqs_store.specs.Disks.{histories_of, failing_of}
use Rattle.nqs_store.specs.declared.disks.Disks.{Disks}
use Rattle.nqs_net.specs.Pasts.{HasCome}
use Rattle.nqs_net.specs.Worlds.{AreDisks, active_in}

-- Whatever images a host's disks may leave tell its state, and its active journal. Its root and its
-- calls of them are as the network says, and the calls are those that kept one change after the
-- other, from one state that the network says it told to the next. At each moment of them the
-- images told the state before a change or the one after it.
pub record IsLeft (left : Disks MemDisk) (host : Host) : Type 0 where
  pub told : LeavesHost (histories_of mem.history_of left) host.state (active_in host)
  pub root : content (histories_of mem.history_of left Root) ≡ host.root
  pub disks : AreDisks host (histories_of mem.history_of left) (failing_of mem.fails_of left)
  pub past : HasCome (histories_of mem.history_of left) (active_in host) host.told host.state

-- each host's disks, in the order of the hosts
abbrev pub AreLeft : List (Disks MemDisk) → List Host → Type 0
AreLeft [] [] = Unit {0}
AreLeft (disks ∷ left) (host ∷ hosts) = IsLeft disks host × AreLeft left hosts
AreLeft left hosts = ⊥
