-- The contracts of calls that spell a change, and put its bytes into the spool.
use Rattle.std.specs.Prelude.{◌≡◌, ◌+◌, ◌≤◌, ℕ, List, [], IsTrue, IfOk, IfErr, OnOk, OnErr, length, vec_len, vec_capacity}
use Rattle.std.specs.Global.{Vec}
use Rattle.std.specs.List.{AllByRecursion}
use Rattle.std.specs.declared.result.Result.{Result}
use Rattle.nqs_base.specs.Want.{want}
use Rattle.nqs_base.specs.declared.extent.Extent.{Extent}
use Rattle.nqs_outside.specs.History.{Call, extended}
use Rattle.nqs_outside.specs.declared.disk.Disk as disk
use Rattle.nqs_spool.specs.Spooled as spool
use Rattle.nqs_spool.specs.declared.spool.Spool.{Spool}
use Rattle.nqs_types.specs.declared.change.Change.{Change}
use Rattle.nqs_rules.specs.Stepped.{stored_parts}
use Rattle.nqs_records.specs.Changes.{MayStand, spelling}
use Rattle.nqs_store.specs.Calls.{IsPrepared, Puts}
use Rattle.nqs_store.specs.Puts.{IsShortPut, AreShortFor}
use Rattle.nqs_store.specs.Putting.{ArePut, ArePutFor}
use Rattle.nqs_store.specs.declared.fault.StoreFault.{StoreFault}
use Rattle.nqs_store.specs.declared.fault.StoreFault.TheVariants as store

-- the record of a change is written
pub record WritesChange (change : Change Extent) (result : Result (Vec ℕ) StoreFault) : Type 0 where
  -- it spells the change
  pub text : IfOk result (λ text. text.items ≡ spelling change)
  -- and is short enough for a record
  pub short : IfOk result (λ text. vec_len text ≤ 65536)
  -- only memory may be wanting
  pub fault : IfErr result (λ fault. fault ≡ store.Memory want)

-- Bytes may be put into a spool that has room for so many lists of them, and their extents into a
-- list of so many.
pub record MayPut (free listed capacity : ℕ) (puts : List (List ℕ)) : Type 0 where
  -- there is room in the spool
  pub room : length puts ≤ free
  -- and in the list
  pub list : listed + length puts ≤ capacity
  -- each of them is short enough for an extent
  pub short : AllByRecursion IsShortPut puts

-- The bytes of a change may be put, for which memory was taken.
pub record MayPutFor (free : ℕ) (extents : List Extent) (capacity : ℕ) (record_text : List ℕ) (change : Change Extent) (puts : List (List ℕ)) : Type 0 where
  -- the change may stand in a record
  pub may_stand : MayStand change
  -- there are bytes for each of its parts that is stored
  pub as_many : length puts ≡ length (stored_parts change)
  -- they are no more than these parts may have
  pub short : AreShortFor change puts
  -- memory was taken
  pub prepared : IsPrepared free extents capacity record_text change puts

module _ {D : Type 0} {g : disk.Ghosts D} (old now : Spool D g) where
  -- Memory is taken for all that keeping a change takes, and its record is written. No call is
  -- made.
  pub record Prepares (change : Change Extent) (puts : List (List ℕ)) (result : Result (Vec ℕ × Vec Extent) StoreFault) : Type 0 where
    -- the record spells the change, and is short enough
    pub text : IfOk result (λ r. (r.0.items ≡ spelling change) × (vec_len r.0 ≤ 65536))
    -- the list of extents is empty, and has room
    pub extents : IfOk result (λ r. (r.1.items ≡ []) × (length puts ≤ vec_capacity r.1))
    -- there is room in the spool
    pub room : OnOk result (length puts ≤ spool.room_of now)
    -- only memory may be wanting
    pub fault : IfErr result (λ fault. fault ≡ store.Memory want)
    -- the disk is left alone
    pub same : spool.disk_of now ≡ spool.disk_of old
    -- what was live is
    pub tells : (live : List Extent) → spool.Tells old live → spool.Tells now live

module _ {D : Type 0} {g : disk.Ghosts D} {T E : Type 0} (old now : Spool D g) where
  -- Bytes are put into the spool, and their extents into a list, or a call failed.
  pub record PutsAll (bytes : List (List ℕ)) (before after : List Extent) (result : Result T E) : Type 0 where
    -- what is left of the spool
    pub puts : Puts old now bytes result
    -- the calls were made behind those before
    pub grown : IsTrue g.tells → (calls : List Call) × (spool.history_of now ≡ extended (spool.history_of old) calls)
    -- at Ok the new extents are live, and hold the bytes
    pub done : OnOk result (ArePut bytes old now before after)

  -- The same for a change, whose extents are set; or a call failed.
  pub record PutsFor (before change : Change Extent) (bytes : List (List ℕ)) (text_before text : List ℕ) (result : Result T E) : Type 0 where
    -- what is left of the spool
    pub puts : Puts old now bytes result
    -- after a failed call the change is the same
    pub unchanged : OnErr result (change ≡ before)
    -- the record is as long as before
    pub size : OnOk result (length text ≡ length text_before)
    -- the bytes are put, the extents set, and the record is that of the change
    pub done : OnOk result (ArePutFor before change bytes text old now)
