-- What reading the bytes of outputs leaves of the outputs, and of the store.
use Rattle.std.specs.Prelude.{◌≡◌, ◌≤◌, ℕ, List, IsTrue, OnOk, IfErr, IsErrOf, map, length}
use Rattle.std.specs.declared.result.Result.{Result}
use Rattle.nqs_types.specs.declared.event.Output.{Output}
use Rattle.nqs_types.specs.declared.event.PlanRead.{PlanRead}
use Rattle.nqs_types.specs.declared.world.Which.TheVariants.{Spool}
use Rattle.nqs_outside.specs.declared.disk.Disk as disk
use Rattle.nqs_rules.specs.Edits.{change_at}
use Rattle.nqs_rules.specs.Stepped.{with_bytes}
use Rattle.nqs_store.specs.Faults.{IsScriptFault}
use Rattle.nqs_store.specs.Stores.{is_stopped, active_of, bytes_of, Tells, OnlyReads, FailedToRead}
use Rattle.nqs_store.specs.Told.{Host}
use Rattle.nqs_store.specs.declared.fault.StoreFault.{StoreFault}
use Rattle.nqs_store.specs.declared.fault.StoreFault.TheVariants as fault
use Rattle.nqs_store.specs.declared.store.Store.{Store}
use Rattle.nqs_back.specs.Bare.{without_bytes}
use Rattle.nqs_node.specs.Reading.{read_into, zeros, IsLiveRead, AreLiveReads, AreShort}

module _ {D : Type 0} {g : disk.Ghosts D} {T : Type 0} (old : Store D g) where
  -- The bytes of one output are read, and nothing else of the outputs changes.
  pub record FillsOne (read : PlanRead) (before after : List Output) (result : Result T StoreFault) : Type 0 where
    -- there are as many outputs
    pub as_many : length after ≡ length before
    -- which are the same but for their bytes
    pub alike : map without_bytes after ≡ map without_bytes before
    -- of a live extent they are what it has
    pub filled : IsTrue g.tells → (host : Host) → Tells old host → IsLiveRead host read
        → OnOk result (after ≡ change_at read.output (with_bytes (bytes_of old read.extent)) before)
    -- whatever the disk is, no more bytes are read than the extent has
    pub few : OnOk result ((bytes : List ℕ) × (length bytes ≤ read.extent.length) × (after ≡ change_at read.output (with_bytes bytes) before))

  -- The bytes of outputs are read, each at its place, and nothing else of the outputs changes.
  pub record Fills (reads : List PlanRead) (before after : List Output) (result : Result T StoreFault) : Type 0 where
    -- there are as many outputs
    pub as_many : length after ≡ length before
    -- which are the same but for their bytes
    pub alike : map without_bytes after ≡ map without_bytes before
    -- of live extents they are what these have
    pub filled : IsTrue g.tells → (host : Host) → Tells old host → AreLiveReads host reads → OnOk result (after ≡ read_into (bytes_of old) reads before)
    -- whatever the disk is, what is sent is short where as many zeros are
    pub short : AreShort (read_into zeros reads before) → OnOk result (AreShort after)

module _ {D : Type 0} {g : disk.Ghosts D} {T : Type 0} (old now : Store D g) where
  -- The spool was read, and the store stays as it is.
  pub record ReadsSpool (result : Result T StoreFault) : Type 0 where
    -- no other disk fails
    pub only : IfErr result IsScriptFault
    -- only a stopped store refuses
    pub stopped : IsErrOf result fault.Stopped → IsTrue (is_stopped old)
    -- a failed read of the spool was counted, and its fuse is blown
    pub failed : IsErrOf result (fault.Disk Spool) → FailedToRead old now Spool
    -- no disk made a counted call
    pub reads : OnlyReads old now
    -- the store is the same
    pub stays : (is_stopped now ≡ is_stopped old) × (active_of now ≡ active_of old)
    -- and tells what it told
    pub tells : IsTrue g.tells → (host : Host) → Tells old host → Tells now host
