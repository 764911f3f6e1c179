-- What is found where a host is read from its disks, call by call.
use Rattle.std.specs.Prelude.{◌≡◌, ◌⊎◌, ℕ, ◌+◌, ◌≤◌, ◌^◌, Bool, IsTrue, List, length, Some, IfOk, IfErr, OnErr, IsErrOf}
use Rattle.std.specs.declared.result.Result.{Result}
use Rattle.nqs_state.specs.State.{content}
use Rattle.nqs_state.specs.declared.state.HostState.{HostState}
use Rattle.nqs_types.specs.declared.world.Which.{Which}
use Rattle.nqs_types.specs.declared.world.Which.TheVariants.{Spool as SpoolDisk}
use Rattle.nqs_base.specs.declared.extent.Extent.{Extent}
use Rattle.nqs_outside.specs.History.{content as bytes_now}
use Rattle.nqs_outside.specs.Reads as one
use Rattle.nqs_outside.specs.declared.disk.Disk as disk
use Rattle.nqs_journal.specs.Open as journals
use Rattle.nqs_journal.specs.declared.journal.Journal.{Journal}
use Rattle.nqs_rules.specs.Journals.{is_second}
use Rattle.nqs_spool.specs.Extents.{AreSound, Covers}
use Rattle.nqs_spool.specs.Live.{kept, end_of}
use Rattle.nqs_spool.specs.Spooled as spools
use Rattle.nqs_spool.specs.declared.live.LiveExtents.{LiveExtents}
use Rattle.nqs_spool.specs.declared.spool.Spool.{Spool}
use Rattle.nqs_store.specs.Faults.{IsReadFault, IsBytesFault, IsExtentFault}
use Rattle.nqs_store.specs.Live.{live}
use Rattle.nqs_store.specs.Images.{AreRead}
use Rattle.nqs_store.specs.Sound.{IsSoundHost}
use Rattle.nqs_store.specs.Told.{Host, told_by}
use Rattle.nqs_store.specs.declared.fault.LoadFault.{LoadFault}
use Rattle.nqs_store.specs.declared.fault.LoadFault.TheVariants as load

-- The set of a host's live extents is built, which a spool of so many bytes may have.
pub record BuildsExtents (size : ℕ) (host : Host) (result : Result LiveExtents LoadFault) : Type 0 where
  -- they end within the spool, and no two meet
  pub sound : IfOk result (λ _. AreSound size (live host))
  -- the set is theirs
  pub covers : IfOk result (λ extents. Covers (kept extents) (live host))
  -- and ends within the spool
  pub end : IfOk result (λ extents. end_of extents ≤ size)
  -- a refusal says which of them is bad
  pub err : IfErr result (IsExtentFault size (live host))

module _ {D E : Type 0} (g : disk.Ghosts D) where
  -- A root is asked which journal it names.
  pub record ReadsRoot (old now : D) (result : Result Bool E) : Type 0 where
    -- its first byte is odd where that is the one on `second`
    pub names : IsTrue g.tells → IfOk result (λ second. second ≡ is_second (bytes_now (g.history old)))
    -- the read failed
    pub failed : OnErr result (one.FailedToRead g old now)
    -- the root is only read
    pub reads : one.OnlyReads g old now
    -- and is asked once
    pub once : IsTrue g.tells → g.reads now ≤ g.reads old + 1

module _ {D : Type 0} (g : disk.Ghosts D) where
  -- The host that a snapshot, if there is one, and records of a journal on this disk tell, with the
  -- set of its live extents in a spool.
  pub record ReadsHost (on : Which) (version : ℕ) (snapshot : List ℕ) (payloads : List (List ℕ)) (old now : D)
      (result : Result (HostState × LiveExtents) LoadFault) : Type 0 where
    -- the host is told, and sound, and the set is that of its extents
    pub host : IfOk result (λ r. (told_by version snapshot payloads ≡ Some (content r.0)) × IsSoundHost (content r.0) × Covers (kept r.1) (live (content r.0)))
    -- whatever the disk is, they end within 2^40 bytes, and no two meet
    pub extents : IfOk result (λ r. (size : ℕ) × (size ≤ 2 ^ 40) × AreSound size (live (content r.0))
        × (IsTrue g.tells → size ≡ length (bytes_now (g.history old))) × (end_of r.1 ≤ size))
    -- a refusal says what is at fault
    pub fault : IsTrue g.tells → IfErr result (IsReadFault on version snapshot payloads (bytes_now (g.history old)))
    -- a failed read was of the spool
    pub failed : (which : Which) → IsErrOf result (load.Disk which) → (which ≡ SpoolDisk) × one.FailedToRead g old now
    -- the spool is only read
    pub reads : one.OnlyReads g old now
    -- and is asked once, for its length
    pub once : IsTrue g.tells → g.reads now ≤ g.reads old + 1

  -- The host that a journal, which stands on this disk, and a spool tell.
  pub record FindsHost (on : Which) (old_active now_active old_spool now_spool : D) (result : Result HostState LoadFault) : Type 0 where
    -- their bytes tell it
    pub found : IsTrue g.tells → IfOk result (λ state. AreRead (bytes_now (g.history old_active)) (bytes_now (g.history old_spool)) (content state))
    -- it is sound
    pub sound : IfOk result (λ state. IsSoundHost (content state))
    -- whatever the disks are, its live extents end within 2^40 bytes, and no two meet
    pub extents : IfOk result (λ state. (size : ℕ) × (size ≤ 2 ^ 40) × AreSound size (live (content state)))
    -- a refusal says what is at fault
    pub fault : IsTrue g.tells → IfErr result (IsBytesFault on (bytes_now (g.history old_active)) (bytes_now (g.history old_spool)))
    -- a failed read was of the journal or of the spool
    pub failed : (which : Which) → IsErrOf result (load.Disk which)
        → ((which ≡ on) × one.FailedToRead g old_active now_active)
        ⊎ ((which ≡ SpoolDisk) × one.FailedToRead g old_spool now_spool)
    -- the journal is only read
    pub active : one.OnlyReads g old_active now_active
    -- and so is the spool
    pub spool : one.OnlyReads g old_spool now_spool
    -- the journal is asked twice, for its length and for its bytes
    pub twice : IsTrue g.tells → g.reads now_active ≤ g.reads old_active + 2
    -- the spool once, for its length
    pub once : IsTrue g.tells → g.reads now_spool ≤ g.reads old_spool + 1

module _ {D : Type 0} {g : disk.Ghosts D} where
  -- The same of an open journal and an open spool.
  pub record RereadsHost (on : Which) (old now : Journal D g) (spool_old spool_now : Spool D g) (result : Result HostState LoadFault) : Type 0 where
    -- what their disks tell
    pub host : FindsHost g on (journals.disk_of old) (journals.disk_of now)
        (spools.disk_of spool_old) (spools.disk_of spool_now) result
    -- the journal is the same
    pub stays : (journals.is_stopped now ≡ journals.is_stopped old) × (journals.count_of now ≡ journals.count_of old)
        × (journals.is_old now ≡ journals.is_old old)
    -- and tells what it told
    pub tells : IsTrue g.tells → (front : List ℕ) (payloads : List (List ℕ)) → journals.Tells old front payloads → journals.Tells now front payloads
    -- so does the spool
    pub kept : (live : List Extent) → spools.Tells spool_old live → spools.Tells spool_now live
