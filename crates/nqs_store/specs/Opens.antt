-- What opening a host's disks finds.
use Rattle.std.specs.Prelude.{◌≡◌, ◌⊎◌, ℕ, ◌+◌, ◌≤◌, ◌^◌, Bool, false, not, IsTrue, List, length, Some, IfOk, IfErr, IsErrOf, MatchResult}
use Rattle.std.specs.declared.result.Result.{Result}
use Rattle.std.specs.List.{AllByRecursion}
use Rattle.nqs_base.specs.declared.extent.Extent.{Extent}
use Rattle.nqs_state.specs.State.{Plain, content}
use Rattle.nqs_state.specs.declared.state.HostState.{HostState}
use Rattle.nqs_types.specs.declared.world.Which.{Which}
use Rattle.nqs_types.specs.declared.world.Which.TheVariants.{Root, Spool as SpoolDisk}
use Rattle.nqs_base.specs.Want.{want}
use Rattle.nqs_outside.specs.History.{content as bytes_now}
use Rattle.nqs_rules.specs.Journals.{is_second, journal_on}
use Rattle.nqs_store.specs.Active.{IsActive}
use Rattle.nqs_store.specs.Disks.{disk_at, histories_of, contents}
use Rattle.nqs_store.specs.Faults.{IsBytesFault, IsLoadFault}
use Rattle.nqs_store.specs.Images.{IsTold, IsToldHost}
use Rattle.nqs_store.specs.Reads.{OnlyReads, FailedToRead, AsksAtMost, of_reading}
use Rattle.nqs_store.specs.Sound.{IsSoundHost}
use Rattle.nqs_store.specs.Stores as store
use Rattle.nqs_store.specs.declared.disks.Disks.{Disks}
use Rattle.nqs_store.specs.declared.fault.LoadFault.{LoadFault}
use Rattle.nqs_store.specs.declared.fault.LoadFault.TheVariants as load
use Rattle.nqs_store.specs.declared.store.Store.{Store}
use Rattle.nqs_outside.specs.Reads as one
use Rattle.nqs_outside.specs.declared.disk.Disk as disk
use Rattle.nqs_journal.specs.Either.{front_of, version_of, is_old_form, IsSnapshot}
use Rattle.nqs_journal.specs.Open as journals
use Rattle.nqs_journal.specs.declared.journal.Journal.{Journal}
use Rattle.nqs_spool.specs.Extents.{AreSound, Covers, past}
use Rattle.nqs_spool.specs.Live.{kept}
use Rattle.nqs_spool.specs.declared.live.LiveExtents.{LiveExtents}
use Rattle.nqs_spool.specs.Spooled as spool
use Rattle.nqs_spool.specs.declared.spool.Spool.{Spool}
use Rattle.nqs_store.specs.Told.{Host, told_by}
use Rattle.nqs_store.specs.Live.{live}

module _ {D : Type 0} {g : disk.Ghosts D} where
  -- The journal and the spool are open, and tell this host.
  pub record AreOpened (j : Journal D g) (s : Spool D g) (host : Host) : Type 0 where
    pub form : ℕ
    pub snapshot : List ℕ
    pub payloads : List (List ℕ)
    pub is : IsSnapshot form snapshot
    pub journal : journals.Tells j (front_of form snapshot) payloads
    pub many : length payloads ≡ journals.count_of j
    pub old : journals.is_old j ≡ is_old_form form
    pub records : told_by (version_of form) snapshot payloads ≡ Some host
    pub spool : spool.Tells s (live host)

  -- A spool is opened with the set of its live extents, and the other journal is laid at rest; or
  -- their disks are handed back.
  pub record LaysAtRest (on_resting on_spool : D) (extents : LiveExtents) (result : Result (Journal D g × Spool D g) (LoadFault × D × D)) : Type 0 where
    -- the spool tells the extents whose set it is
    pub tells : IfOk result (λ r. (live : List Extent) → Covers (kept extents) live
        → (IsTrue g.tells → AllByRecursion (λ x. past x ≤ length (bytes_now (g.history on_spool))) live) → spool.Tells r.1 live)
    -- the disks are left alone
    pub same : MatchResult result (λ r. (journals.disk_of r.0 ≡ on_resting) × (spool.disk_of r.1 ≡ on_spool))
        (λ e. (e.1 ≡ on_resting) × (e.2 ≡ on_spool))
    -- only memory may be wanting
    pub fault : IfErr result (λ e. e.0 ≡ load.Memory want)

  -- A journal, which stands on this disk, and a spool are opened, the other journal is laid at
  -- rest, and the host is told; or their disks are handed back.
  pub record OpensWith (on : Which) (on_active on_resting on_spool : D)
      (result : Result (Journal D g × Journal D g × Spool D g × HostState) (LoadFault × D × D × D)) : Type 0 where
    -- the journal and the spool tell the host
    pub opened : IsTrue g.tells → IfOk result (λ r. AreOpened r.0 r.2 (content r.3))
    -- the journal runs
    pub running : IfOk result (λ r. journals.is_stopped r.0 ≡ false)
    -- the host is sound
    pub sound : IfOk result (λ r. IsSoundHost (content r.3))
    -- its live extents end within 2^40 bytes, and no two meet
    pub extents : IfOk result (λ r. (size : ℕ) × (size ≤ 2 ^ 40) × AreSound size (live (content r.3)))
    -- a refusal says what is at fault
    pub fault : IsTrue g.tells → IfErr result (λ e. (e.0 ≡ load.Memory want)
        ⊎ IsBytesFault on (bytes_now (g.history on_active)) (bytes_now (g.history on_spool)) e.0)
    -- a failed read was of the journal or of the spool
    pub failed : IfErr result (λ e. (which : Which) → e.0 ≡ load.Disk which
        → ((which ≡ on) × one.FailedToRead g on_active e.1)
        ⊎ ((which ≡ SpoolDisk) × one.FailedToRead g on_spool e.3))
    -- the journal is only read
    pub active : MatchResult result (λ r. one.OnlyReads g on_active (journals.disk_of r.0))
        (λ e. one.OnlyReads g on_active e.1)
    -- the other is left alone
    pub resting : MatchResult result (λ r. journals.disk_of r.1 ≡ on_resting) (λ e. e.2 ≡ on_resting)
    -- the journal is asked twice, for its length and for its bytes
    pub twice : IsTrue g.tells → MatchResult result (λ r. g.reads (journals.disk_of r.0) ≤ g.reads on_active + 2)
        (λ e. g.reads e.1 ≤ g.reads on_active + 2)
    -- the spool once, for its length
    pub once : IsTrue g.tells → MatchResult result (λ r. g.reads (spool.disk_of r.2) ≤ g.reads on_spool + 1)
        (λ e. g.reads e.3 ≤ g.reads on_spool + 1)
    -- the spool is only read
    pub spool : MatchResult result (λ r. one.OnlyReads g on_spool (spool.disk_of r.2))
        (λ e. one.OnlyReads g on_spool e.3)

module _ {D : Type 0} {g : disk.Ghosts D} where
  -- The disks of a host are opened whose root names the journal on `second`, or the other; or they
  -- are handed back.
  pub record OpensOn (second : Bool) (on_root on_active on_resting on_spool : D) (result : Result (Store D g × HostState) (LoadFault × Disks D)) : Type 0 where
    -- the journal and the spool tell the host
    pub opened : IsTrue g.tells → IfOk result (λ r. AreOpened (store.journal_in second r.0) r.0.spool (content r.1))
    -- the root names the journal
    pub named : IfOk result (λ r. r.0.on_second ≡ second)
    -- the store isn't stopped
    pub running : IfOk result (λ r. r.0.stopped ≡ false)
    -- the host is sound
    pub sound : IfOk result (λ r. IsSoundHost (content r.1))
    -- its live extents end within 2^40 bytes, and no two meet
    pub extents : IfOk result (λ r. (size : ℕ) × (size ≤ 2 ^ 40) × AreSound size (live (content r.1)))
    -- a refusal says what is at fault
    pub fault : IsTrue g.tells → IfErr result (λ e. (e.0 ≡ load.Memory want)
        ⊎ IsBytesFault (journal_on second) (bytes_now (g.history on_active)) (bytes_now (g.history on_spool)) e.0)
    -- a failed read was of the journal or of the spool
    pub failed : IfErr result (λ e. (which : Which) → e.0 ≡ load.Disk which
        → ((which ≡ journal_on second) × one.FailedToRead g on_active (disk_at (journal_on second) e.1))
        ⊎ ((which ≡ SpoolDisk) × one.FailedToRead g on_spool e.1.spool))
    -- the root is left alone
    pub root : MatchResult result (λ r. r.0.root ≡ on_root) (λ e. e.1.root ≡ on_root)
    -- the journal is only read
    pub active : MatchResult result
        (λ r. one.OnlyReads g on_active (journals.disk_of (store.journal_in second r.0)))
        (λ e. one.OnlyReads g on_active (disk_at (journal_on second) e.1))
    -- the other is left alone
    pub resting : MatchResult result (λ r. journals.disk_of (store.journal_in (not second) r.0) ≡ on_resting)
        (λ e. disk_at (journal_on (not second)) e.1 ≡ on_resting)
    -- the journal is asked twice, for its length and for its bytes
    pub twice : IsTrue g.tells → MatchResult result
        (λ r. g.reads (journals.disk_of (store.journal_in second r.0)) ≤ g.reads on_active + 2)
        (λ e. g.reads (disk_at (journal_on second) e.1) ≤ g.reads on_active + 2)
    -- the spool once, for its length
    pub once : IsTrue g.tells → MatchResult result (λ r. g.reads (spool.disk_of r.0.spool) ≤ g.reads on_spool + 1)
        (λ e. g.reads e.1.spool ≤ g.reads on_spool + 1)
    -- the spool is only read
    pub spool : MatchResult result (λ r. one.OnlyReads g on_spool (spool.disk_of r.0.spool))
        (λ e. one.OnlyReads g on_spool e.1.spool)

  -- The disks of a host are opened, and the host is told; or they are handed back.
  pub record Loads (disks : Disks D) (result : Result (Store D g × HostState) (LoadFault × Disks D)) : Type 0 where
    -- the store tells the host
    pub tells : IsTrue g.tells → IfOk result (λ r. store.Tells r.0 (content r.1))
    -- its active journal is that of the disks
    pub active : IsTrue g.tells → IfOk result (λ r. IsActive (contents (histories_of g.history disks)) (store.active_of r.0))
    -- the host is sound
    pub sound : IfOk result (λ r. IsSoundHost (content r.1))
    -- whatever the disks are, its live extents end within 2^40 bytes, and no two meet
    pub extents : IfOk result (λ r. (size : ℕ) × (size ≤ 2 ^ 40) × AreSound size (live (content r.1)))
    -- the store isn't stopped
    pub running : IfOk result (λ r. store.is_stopped r.0 ≡ false)
    -- a refusal says what is at fault
    pub fault : IsTrue g.tells → IfErr result (λ e. IsLoadFault (contents (histories_of g.history disks)) e.0)
    -- and which read failed
    pub failed : IfErr result (λ e. (which : Which) → e.0 ≡ load.Disk which
        → FailedToRead g (λ at. disk_at at disks) (λ at. disk_at at e.1) which)
    -- the host is the one that the bytes tell
    pub told : IsTrue g.tells → (host : Host) → IsToldHost (contents (histories_of g.history disks)) host → IfOk result (λ r. content r.1 ≡ host)
    -- where they tell one they are at fault nowhere
    pub never : IsTrue g.tells → (plain : Plain) → IsTold (contents (histories_of g.history disks)) plain
        → IfErr result (λ e. (which : Which) (place : ℕ) → e.0 ≡ load.NotNqs which place → ⊥)
    -- the disks are only read
    pub reads : MatchResult result
        (λ r. OnlyReads g (λ at. disk_at at disks) (λ at. store.disk_of at r.0))
        (λ e. OnlyReads g (λ at. disk_at at disks) (λ at. disk_at at e.1))
    -- each of them is asked no more often than by a reading
    pub asks : MatchResult result
        (λ r. AsksAtMost g (λ at. disk_at at disks) (λ at. store.disk_of at r.0) (of_reading (is_second (bytes_now (g.history disks.root)))))
        (λ e. AsksAtMost g (λ at. disk_at at disks) (λ at. disk_at at e.1) (of_reading (is_second (bytes_now (g.history disks.root)))))

module _ {D : Type 0} {g : disk.Ghosts D} (old now : Store D g) where
  -- The host is told by what the disks of an open store hold now, whatever the store told before.
  pub record Rereads (result : Result HostState LoadFault) : Type 0 where
    -- the bytes tell the host
    pub found : IsTrue g.tells → IfOk result (λ state. IsToldHost (contents (store.history_of old)) (content state))
    -- a refusal says what is at fault
    pub fault : IsTrue g.tells → IfErr result (IsLoadFault (contents (store.history_of old)))
    -- it is the host that the store tells
    pub told : IsTrue g.tells → (host : Host) → store.Tells old host → IfOk result (λ state. content state ≡ host)
    -- the host is sound
    pub sound : IfOk result (λ state. IsSoundHost (content state))
    -- whatever the disks are, its live extents end within 2^40 bytes, and no two meet
    pub extents : IfOk result (λ state. (size : ℕ) × (size ≤ 2 ^ 40) × AreSound size (live (content state)))
    -- where the store tells one, they are at fault nowhere
    pub never : IsTrue g.tells → (host : Host) → store.Tells old host → (which : Which) (place : ℕ) → IsErrOf result (load.NotNqs which place) → ⊥
    -- which read failed
    pub failed : (which : Which) → IsErrOf result (load.Disk which) → store.FailedToRead old now which
    -- the disks are only read
    pub reads : store.OnlyReads old now
    -- each of them is asked no more often than by a reading
    pub asks : store.AsksAtMost old now (of_reading (is_second (bytes_now (store.history_of old Root))))
    -- the store is the same
    pub stays : (store.is_stopped now ≡ store.is_stopped old) × (store.active_of now ≡ store.active_of old)
    -- and tells what it told
    pub tells : IsTrue g.tells → (host : Host) → store.Tells old host → store.Tells now host
