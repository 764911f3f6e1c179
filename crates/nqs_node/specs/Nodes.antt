-- What a node tells.
use Rattle.std.specs.Prelude.{◌≡◌, ℕ, Bool, List, false}
use Rattle.nqs_state.specs.State.{State, Plain, content}
use Rattle.nqs_base.specs.declared.extent.Extent.{Extent}
use Rattle.nqs_types.specs.declared.world.Which.{Which}
use Rattle.nqs_outside.specs.History.{History}
use Rattle.nqs_outside.specs.declared.disk.Disk as disk
use Rattle.nqs_store.specs.Active.{Active}
use Rattle.nqs_store.specs.Stores as store
use Rattle.nqs_rules.specs.Plain.{map_state}
use Rattle.nqs_back.specs.Bare.{emptied}
use Rattle.nqs_node.specs.Reading.{zeros}
use Rattle.nqs_node.specs.declared.node.Node.{Node}

module _ {D : Type 0} {g : disk.Ghosts D} where
  -- one of the node's disks
  abbrev pub disk_of : Which → Node D g → D
  disk_of which node = store.disk_of which node.store

  -- what one of its disks did
  abbrev pub history_of : Node D g → Which → History
  history_of node which = g.history (disk_of which node)

  -- which of its disks' calls are to fail
  abbrev pub fails_of : Node D g → Which → ℕ → Bool
  fails_of node which = g.fails (disk_of which node)

  -- a failed call of one of its disks wasn't made
  abbrev pub is_starved : Node D g → Which → Bool
  is_starved node which = g.starved (disk_of which node)

  -- its active journal
  abbrev pub active_of : Node D g → Active
  active_of node = store.active_of node.store

  -- its state, with extents of the spool
  abbrev pub content_of : Node D g → State Extent
  content_of node = content node.state

  -- the bytes of an extent
  abbrev pub bytes_of : Node D g → Extent → List ℕ
  bytes_of node = store.bytes_of node.store

  -- its state, with the bytes of its extents
  abbrev pub plain_of : Node D g → Plain
  plain_of node = store.plain_of node.store (content_of node)

  -- its state without the bytes of its extents, which every disk leaves as the rules say
  abbrev pub bare : Node D g → Plain
  bare node = emptied (content_of node)

  -- its state with as many zeros as it has bytes, which tells how much is sent
  abbrev pub sized : Node D g → Plain
  sized node = map_state zeros (content_of node)

  -- an earlier call was answered `Disk`
  abbrev pub is_stopped : Node D g → Bool
  is_stopped node = node.stopped

  -- This is its state, and its disks tell it.
  pub record Tells (node : Node D g) (s : Plain) : Type 0 where
    pub is : plain_of node ≡ s
    pub told : store.Tells node.store (content_of node)
    pub running : is_stopped node ≡ false

  -- Nothing happened to it: its state and its active journal stay, its disks made no counted call,
  -- and it tells what it told.
  pub record Stays (old now : Node D g) : Type 0 where
    pub state : content_of now ≡ content_of old
    pub running : is_stopped now ≡ is_stopped old
    pub active : active_of now ≡ active_of old
    pub same : (which : Which) → history_of now which ≡ history_of old which
    pub tells : (s : Plain) → Tells old s → Tells now s

  -- it only read its disks
  abbrev pub OnlyReads : (old now : Node D g) → Type 0
  OnlyReads old now = store.OnlyReads old.store now.store

  -- a read of one of its disks failed
  abbrev pub FailedToRead : (old now : Node D g) → Which → Type 0
  FailedToRead old now which = store.FailedToRead old.store now.store which

  -- it asked its disks for bytes or for a length so often at most
  abbrev pub AsksAtMost : (old now : Node D g) → (Which → ℕ) → Type 0
  AsksAtMost old now = store.AsksAtMost old.store now.store
