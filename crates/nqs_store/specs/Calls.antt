-- The contracts of calls that write a store's disks. What several of them leave is one record of
-- facts, which each of them cites.
use Rattle.std.specs.Prelude.{◌≡◌, ◌⊎◌, ℕ, ◌≤◌, false, IsTrue, List, [], length, Ok, OnOk, OnErr, IsErrOf}
use Rattle.std.specs.declared.result.Result.{Result}
use Rattle.nqs_state.specs.State.{Plain}
use Rattle.nqs_base.specs.declared.extent.Extent.{Extent}
use Rattle.nqs_types.specs.declared.change.Change.{Change}
use Rattle.nqs_types.specs.declared.world.Which.{Which}
use Rattle.nqs_types.specs.declared.world.Which.TheVariants.{Spool}
use Rattle.nqs_outside.specs.Causes.{Rose}
use Rattle.nqs_outside.specs.History.{content, moment, EachSince}
use Rattle.nqs_outside.specs.declared.disk.Disk as disk
use Rattle.nqs_journal.specs.Open as journal
use Rattle.nqs_journal.specs.declared.journal.Journal.{Journal}
use Rattle.nqs_spool.specs.Extents.{Has, Holds}
use Rattle.nqs_spool.specs.Spooled as spool
use Rattle.nqs_spool.specs.declared.spool.Spool.{Spool as SpoolOf}
use Rattle.nqs_rules.specs.Applied.{applied}
use Rattle.nqs_rules.specs.Filled as filling
use Rattle.nqs_rules.specs.Fits.{fits}
use Rattle.nqs_rules.specs.Stepped.{map_change, no_extent, stored_parts}
use Rattle.nqs_rules.specs.World.{spool_calls}
use Rattle.nqs_records.specs.Changes.{MayStand, spelling}
use Rattle.nqs_snapshot.specs.Reading.{snapshot_of}
use Rattle.nqs_store.specs.Accounts.{Takes}
use Rattle.nqs_store.specs.Active.{Active, journal_of, turned_to}
use Rattle.nqs_store.specs.Changing.{Turning, Changing, IsTurned, IsTurnCut, IsChangeCut}
use Rattle.nqs_store.specs.Commits.{AreClear, FailsFirst, IsKept, IsCutAt, Keeping}
use Rattle.nqs_store.specs.Hosts.{HostCall, Runs, EachPrefix, StopsShort}
use Rattle.nqs_store.specs.Images.{IsTold}
use Rattle.nqs_store.specs.Plan.{CommitsBy, checkpoint_calls}
use Rattle.nqs_store.specs.Puts.{AreShortFor}
use Rattle.nqs_store.specs.Putting.{ArePartlyPut}
use Rattle.nqs_store.specs.Stops.{StopsBy}
use Rattle.nqs_store.specs.Steps.{IsTextOf, HasBegun, HasBegunShort, HasAppended, HasAppendedShort}
use Rattle.nqs_store.specs.Stores.{disk_of, history_of, fails_of, is_starved, is_stopped, active_of, Tells, bytes_of, plain_of}
use Rattle.nqs_store.specs.Told.{Host}
use Rattle.nqs_store.specs.declared.store.Store.{Store}

-- the change may be kept at a host, with these bytes
pub record MayCommit (host : Host) (change : Change Extent) (puts : List (List ℕ)) : Type 0 where
  -- it fits what the host is
  pub fits : IsTrue (fits change host)
  -- it may stand in a record
  pub may_stand : MayStand change
  -- there are bytes for each of its parts that is stored
  pub as_many : length puts ≡ length (stored_parts change)
  -- they are no more than these parts may have
  pub short : AreShortFor change puts

-- memory was taken for all that keeping a change takes: room in the spool, a list of extents, and
-- the text of its record
pub record IsPrepared (free : ℕ) (extents : List Extent) (capacity : ℕ) (record_text : List ℕ) (change : Change Extent) (puts : List (List ℕ)) : Type 0 where
  -- there is room in the spool
  pub room : length puts ≤ free
  -- the list of extents is empty
  pub none : extents ≡ []
  -- and has room
  pub list : length puts ≤ capacity
  -- the text is that of the change
  pub text : record_text ≡ spelling change
  -- which is short enough for a record
  pub size : length record_text ≤ 65536

module _ {D : Type 0} {g : disk.Ghosts D} where
  -- extents are free of a spool: what is left is told
  pub record Frees (old now : SpoolOf D g) (gone : List Extent) : Type 0 where
    -- without those that go, what was live is
    pub tells : (live fewer : List Extent) → spool.Tells old live → Takes live gone fewer → spool.Tells now fewer
    -- no call is made
    pub same : spool.disk_of now ≡ spool.disk_of old

module _ {D : Type 0} {g : disk.Ghosts D} {T E : Type 0} where
  -- what putting bytes into a spool leaves of it
  pub record Puts (old now : SpoolOf D g) (puts : List (List ℕ)) (result : Result T E) : Type 0 where
    -- a failed call was counted by the disk
    pub fault : OnErr result (Rose (g.faults (spool.disk_of old)) (g.faults (spool.disk_of now)))
    -- its count of faults doesn't fall
    pub later : g.faults (spool.disk_of old) ≤ g.faults (spool.disk_of now)
    -- the first of the calls were made, of which only the last may have failed
    pub broken : IsTrue g.tells → OnErr result (ArePartlyPut puts (spool.history_of old) (spool.history_of now))
    -- none of them was to fail
    pub due : IsTrue g.tells → OnOk result (AreClear (g.fails (spool.disk_of old)) (moment (spool.history_of old)) (spool_calls puts))
    -- one of them was to fail, unless the disk is starved
    pub failing : IsTrue g.tells → OnErr result (IsTrue (g.starved (spool.disk_of now)) ⊎ (i : ℕ)
        × FailsFirst (g.fails (spool.disk_of old)) (moment (spool.history_of old)) (spool_calls puts) i)
    -- which calls are to fail stays
    pub fuse : IsTrue g.tells → (i : ℕ) → g.fails (spool.disk_of now) i ≡ g.fails (spool.disk_of old) i
    -- the disk isn't read
    pub unread : IsTrue g.tells → g.reads (spool.disk_of now) ≡ g.reads (spool.disk_of old)
    -- each image of each moment holds what the live extents hold
    pub kept : IsTrue g.tells → (live : List Extent) → spool.Tells old live → (x : Extent) (script : List ℕ) → Has live x
        → Holds (content (spool.history_of old)) x script
        → EachSince (moment (spool.history_of old)) (spool.history_of now) (λ image. Holds image x script)
    -- and so does what a read gives
    pub still : IsTrue g.tells → (live : List Extent) → spool.Tells old live → (x : Extent) (script : List ℕ) → Has live x
        → Holds (content (spool.history_of old)) x script → Holds (content (spool.history_of now)) x script

  -- a journal has one record more, or a call of it failed
  pub record Appends (old now : Journal D g) (text : List ℕ) (result : Result T E) : Type 0 where
    -- it has the record
    pub done : OnOk result (HasAppended old now text)
    -- a failed call was counted by its disk
    pub fault : OnErr result (Rose (g.faults (journal.disk_of old)) (g.faults (journal.disk_of now)))
    -- what a failed call leaves
    pub short : OnErr result (HasAppendedShort old now text)
    -- which calls are to fail stays
    pub fuse : IsTrue g.tells → (i : ℕ) → g.fails (journal.disk_of now) i ≡ g.fails (journal.disk_of old) i
    -- its disk's count of faults doesn't fall
    pub later : g.faults (journal.disk_of old) ≤ g.faults (journal.disk_of now)
    -- which isn't read
    pub unread : IsTrue g.tells → g.reads (journal.disk_of now) ≡ g.reads (journal.disk_of old)

  -- a journal begins anew with a text, or a call of it failed
  pub record Begins (old now : Journal D g) (text : List ℕ) (result : Result T E) : Type 0 where
    -- it begins so
    pub done : OnOk result (HasBegun old now text)
    -- what a failed call leaves
    pub short : OnErr result (HasBegunShort old now text)
    -- which calls are to fail stays
    pub fuse : IsTrue g.tells → (i : ℕ) → g.fails (journal.disk_of now) i ≡ g.fails (journal.disk_of old) i
    -- its disk's count of faults doesn't fall
    pub later : g.faults (journal.disk_of old) ≤ g.faults (journal.disk_of now)
    -- which isn't read
    pub unread : IsTrue g.tells → g.reads (journal.disk_of now) ≡ g.reads (journal.disk_of old)

-- the state that a store tells, after a change with these bytes
abbrev pub state_after : {D : Type 0} {g : disk.Ghosts D} → Store D g → Change Extent → List (List ℕ) → Host → Plain
state_after old change puts host = applied (filling.filled change puts) (plain_of old host)

module _ {D : Type 0} {g : disk.Ghosts D} {T E : Type 0} (old now : Store D g) (failed : Which → E) (result : Result T E) where
  -- what a call that may stop the store leaves of its disks
  abbrev pub MayStop : Type 0
  MayStop = StopsBy g (is_stopped now) (λ which. disk_of which old) (λ which. disk_of which now) failed result

module _ {D : Type 0} {g : disk.Ghosts D} (old : Store D g) (host : Host) where
  -- a change of the host may be kept in an open store, for which memory was taken
  pub record MayKeep (extents : List Extent) (capacity : ℕ) (record_text : List ℕ) (change : Change Extent) (puts : List (List ℕ)) : Type 0 where
    -- the store isn't stopped
    pub running : is_stopped old ≡ false
    -- the change may be kept at the host, with these bytes
    pub may : MayCommit host change puts
    -- memory was taken
    pub prepared : IsPrepared (spool.room_of old.spool) extents capacity record_text change puts

module _ {D : Type 0} {g : disk.Ghosts D} (old now : Store D g) where
  -- for want of memory nothing happened: no call was made, and what was told is told
  pub record IsLeft : Type 0 where
    pub same : (which : Which) → disk_of which now ≡ disk_of which old
    pub stopped : is_stopped now ≡ is_stopped old
    pub active : active_of now ≡ active_of old
    pub tells : (host : Host) → Tells old host → Tells now host

module _ {D : Type 0} {g : disk.Ghosts D} {T E : Type 0} (old now : Store D g) where
  module _ (before change : Change Extent) (puts : List (List ℕ)) (host : Host) where
    -- At Ok a change is kept: its extents are set, and the store tells the host that has it.
    pub record KeepsChange (next : Active) (result : Result T E) : Type 0 where
      -- whatever the disks are, it may stand in a record as it is then
      pub stands : OnOk result (MayStand change)
      -- only extents are filled in
      pub shape : map_change (λ _. no_extent) change ≡ map_change (λ _. no_extent) before
      -- and they hold the bytes
      pub filled : IsTrue g.tells → Tells old host → OnOk result (map_change (bytes_of now) change ≡ filling.filled before puts)
      -- the bytes of what was there stay
      pub kept : IsTrue g.tells → Tells old host → OnOk result (plain_of now host ≡ plain_of old host)
      -- the change is told
      pub told : IsTrue g.tells → Tells old host → OnOk result (Tells now (applied change host))
      -- this is the active journal
      pub active : OnOk result (active_of now ≡ next)
      -- with all bytes, the state is the one after the change
      pub plain : IsTrue g.tells → Tells old host → OnOk result (plain_of now (applied change host) ≡ state_after old before puts host)

  module _ (change : Change Extent) (puts : List (List ℕ)) (host : Host) where
    -- The calls of a change: its bytes go to the spool, and then its record to the active journal.
    pub record Records (failed : Which → E) (result : Result T E) : Type 0 where
      -- all of them were made
      pub made : IsTrue g.tells → OnOk result (Changing (λ planned run. run ≡ planned) old now puts host (state_after old change puts host))
      -- none of the spool's was to fail
      pub spool : IsTrue g.tells → OnOk result (AreClear (fails_of old Spool) (moment (history_of old Spool)) (spool_calls puts))
      -- nor one of the journal's
      pub journal : IsTrue g.tells
          → OnOk result (AreClear (fails_of old (journal_of (active_of old))) (moment (history_of old (journal_of (active_of old)))) 4)
      -- the first of them were made, of which only the last may have failed
      pub broken_off : IsTrue g.tells → OnErr result (Changing StopsShort old now puts host (state_after old change puts host))
      -- which of them failed is the disk's to say, unless it is starved
      pub cut : IsTrue g.tells → Tells old host → (which : Which) → IsErrOf result (failed which) → IsTrue (is_starved now which)
          ⊎ IsChangeCut (active_of old) (fails_of old) puts (history_of old) (history_of now) (plain_of old host) (state_after old change puts host) which

    -- The calls of a commit: those of a checkpoint, where one is due, and then those of the change.
    pub record Commits (failed : Which → E) (result : Result T E) : Type 0 where
      -- all of them were made, and none was to fail
      pub made : IsTrue g.tells → OnOk result (IsKept (active_of old) (fails_of old) puts (history_of old) (history_of now))
      -- the first of them were made, of which only the last may have failed
      pub broken_off : IsTrue g.tells → OnErr result (CommitsBy StopsShort (active_of old) puts (history_of old) (history_of now))
      -- Which of them failed is the disk's to say, unless it is starved. Before the third call of
      -- the record the change isn't kept; from it on the gate decides. Where it is a call of the
      -- root, the byte that the root then has names the active journal.
      pub cut : IsTrue g.tells → Tells old host → (which : Which) → IsErrOf result (failed which) → IsTrue (is_starved now which)
          ⊎ IsCutAt (active_of old) (fails_of old) puts (history_of old) (history_of now) (plain_of old host) (state_after old change puts host) which
      -- At each moment of them, whatever images the disks may leave, they tell the state before or
      -- the state after, with all bytes; and after the last of them the active journal has one
      -- record more.
      pub any_moment : IsTrue g.tells → Tells old host
          → Keeping (active_of old) puts (history_of old) (history_of now) (plain_of old host) (state_after old change puts host)

  module _ (failed : Which → E) (result : Result T E) where
    -- The store turns over to the other journal, which begins with a text, or a call of it failed.
    pub record TurnsOver (text : List ℕ) : Type 0 where
      -- the spool is left alone
      pub spool : now.spool ≡ old.spool
      -- the other journal is the active one
      pub active : OnOk result (active_of now ≡ turned_to (active_of old))
      -- what the text says is told, where it was
      pub told : IsTrue g.tells → (snapshot : List ℕ) (host : Host) → IsTextOf text snapshot → snapshot_of snapshot ≡ Ok host → Tells old host
          → OnOk result (Tells now host)
      -- its calls were made
      pub made : IsTrue g.tells → (snapshot : List ℕ) (host : Host) → IsTextOf text snapshot
          → OnOk result (Turning (λ planned run. run ≡ planned) old now snapshot host)
      -- none of them was to fail
      pub past : IsTrue g.tells → OnOk result (IsTurned (active_of old) (fails_of old) (history_of old))
      -- the first of them were made, of which only the last may have failed
      pub broken_off : IsTrue g.tells → (snapshot : List ℕ) (host : Host) → IsTextOf text snapshot → OnErr result (Turning StopsShort old now snapshot host)
      -- which of them failed is the disk's to say, unless it is starved
      pub cut : IsTrue g.tells → (snapshot : List ℕ) (host : Host) → IsTextOf text snapshot → snapshot_of snapshot ≡ Ok host → Tells old host
          → (which : Which) → IsErrOf result (failed which) → IsTrue (is_starved now which)
          ⊎ IsTurnCut (active_of old) (fails_of old) (history_of old) (history_of now) (plain_of old host) which

    -- A checkpoint of the host is made: two calls of the other journal's disk and two of the root,
    -- or the first of them.
    pub record Checkpoints (snapshot : List ℕ) (host : Host) : Type 0 where
      -- the other journal is the active one
      pub active : OnOk result (active_of now ≡ turned_to (active_of old))
      -- what is told stays, with all bytes
      pub told : IsTrue g.tells → Tells old host → OnOk result (Tells now host × (plain_of now host ≡ plain_of old host))
      -- its calls were made
      pub made : IsTrue g.tells → OnOk result (Runs (history_of old) (history_of now) (checkpoint_calls (active_of old) snapshot))
      -- the first of them were made, of which only the last may have failed
      pub broken_off : IsTrue g.tells → OnErr result ((run : List HostCall)
          × StopsShort (checkpoint_calls (active_of old) snapshot) run × Runs (history_of old) (history_of now) run)
      -- at each moment of them, whatever images the disks may leave, they tell the state
      pub any_moment : IsTrue g.tells → Tells old host → (run : List HostCall) × Runs (history_of old) (history_of now) run
          × EachPrefix (history_of old) run (λ images. IsTold images (plain_of old host))
