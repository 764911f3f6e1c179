-- What keeping and making a change of a host leaves of its store, and of the host.
use Rattle.std.specs.Prelude.{◌≡◌, ◌⊎◌, ◌≤◌, ℕ, false, List, Option, IsTrue, OnOk, OnErr, IsErrOf}
use Rattle.std.specs.Option.{option_map}
use Rattle.std.specs.declared.result.Result.{Result}
use Rattle.nqs_base.specs.Want.{want}
use Rattle.nqs_base.specs.declared.extent.Extent.{Extent}
use Rattle.nqs_types.specs.declared.change.Change.{Change}
use Rattle.nqs_types.specs.declared.world.Which.{Which}
use Rattle.nqs_outside.specs.Causes.{Rose}
use Rattle.nqs_outside.specs.declared.disk.Disk as disk
use Rattle.nqs_rules.specs.Applied.{applied}
use Rattle.nqs_rules.specs.Starts.{after_change}
use Rattle.nqs_store.specs.Active.{ready, recorded}
use Rattle.nqs_store.specs.Calls.{IsLeft, MayStop, Commits, state_after}
use Rattle.nqs_store.specs.Sound.{IsSoundHost}
use Rattle.nqs_store.specs.Stores.{disk_of, history_of, fails_of, is_starved, is_stopped, active_of, plain_of, Tells}
use Rattle.nqs_store.specs.Told.{Host}
use Rattle.nqs_store.specs.declared.fault.StoreFault.{StoreFault}
use Rattle.nqs_store.specs.declared.fault.StoreFault.TheVariants as fault
use Rattle.nqs_store.specs.declared.store.Store.{Store}
use Rattle.nqs_back.specs.Bare.{emptied, blank}
use Rattle.nqs_node.specs.Carried.{Kept, after_kept, IsMade, IsCutBy, IsBrokenOff, IsOneOrOther, IsBlown}
use Rattle.nqs_node.specs.Planned.{IsKeptWith}

module _ {D : Type 0} {g : disk.Ghosts D} {T E : Type 0} (old now : Store D g) (before after : Host) where
  -- A change of a host is kept and made, or a fault leaves the host as it was: a failed call of a
  -- disk, or want of memory.
  pub record Makes (change : Change Extent) (puts : List (List ℕ)) (failed : Which → E) (refused : E) (result : Result T E) : Type 0 where
    -- the host is sound
    pub sound : IsSoundHost after
    -- its site stays
    pub site : after.site ≡ before.site
    -- a fault makes no change
    pub err : OnErr result (after ≡ before)
    -- over whatever disks it is the host after the change, but for the bytes that are kept
    pub bare : OnOk result (emptied after ≡ applied (blank change) (emptied before))
    -- the active journal has one record more
    pub active : OnOk result (active_of now ≡ recorded (ready (active_of old)))
    -- the store tells the host
    pub told : IsTrue g.tells → Tells old before → OnOk result (Tells now after)
    -- with all bytes, it is the state after the change
    pub plain : IsTrue g.tells → Tells old before → OnOk result (plain_of now after ≡ state_after old change puts before)
    -- want of memory comes before the first call
    pub memory : IsErrOf result refused → IsLeft old now
    -- a failed call of a disk stops the store
    pub stops : MayStop old now failed result
    -- the calls of the change's commit were made, or the first of them
    pub calls : Commits old now change puts before failed result

module _ {D : Type 0} {g : disk.Ghosts D} {T : Type 0} (old now : Store D g) (before after : Host) where
  -- What is to be kept, if a change is, was kept and made, behind reads of the spool; or a call
  -- failed.
  pub record Keeps (kept : Kept) (result : Result T StoreFault) : Type 0 where
    -- with all bytes, it is the state after it
    pub plain : IsTrue g.tells → Tells old before → OnOk result (plain_of now after ≡ after_change kept (plain_of old before))
    -- just its calls were made, and none was to fail
    pub made : IsTrue g.tells → OnOk result (IsMade (active_of old) (fails_of old) (history_of old) (history_of now) kept)
    -- the active journal goes on by it
    pub active : OnOk result (active_of now ≡ after_kept kept (active_of old))
    -- a part of its calls was made, of which only the last may have failed
    pub broken_off : IsTrue g.tells → OnErr result (IsBrokenOff (active_of old) (history_of old) (history_of now) kept)
    -- which of them failed is the disk's to say, unless it is starved
    pub cut : IsTrue g.tells → Tells old before → (which : Which) → IsErrOf result (fault.Disk which) → IsTrue (is_starved now which)
        ⊎ (IsBlown (fails_of old which) (history_of old which)
        ⊎ IsCutBy (active_of old) (fails_of old) (history_of old) (history_of now) kept (plain_of old before) which)
    -- at each moment, whatever images the disks may leave, they tell the state before it or the one
    -- after it
    pub any_moment : IsTrue g.tells → Tells old before → IsOneOrOther (active_of old) (history_of old) (history_of now) kept (plain_of old before)

  -- The change of a plan, if there is one, is kept and made behind reads of the spool; or a call
  -- failed, and the host is as it was.
  pub record Performs (change : Option (Change Extent)) (puts : List (List ℕ)) (result : Result T StoreFault) : Type 0 where
    -- the host is sound
    pub sound : IsSoundHost after
    -- its site stays
    pub site : after.site ≡ before.site
    -- a fault makes no change
    pub err : OnErr result (after ≡ before)
    -- the store doesn't refuse
    pub stopped : IsErrOf result fault.Stopped → ⊥
    -- over whatever disks it is the host after the change, but for the bytes that are kept
    pub bare : OnOk result (emptied after ≡ after_change (option_map blank change) (emptied before))
    -- want of memory leaves the store running, with the journal as it was
    pub memory : IsErrOf result (fault.Memory want) → (is_stopped now ≡ false) × (active_of now ≡ active_of old)
    -- it comes before the first counted call, and what was told is told
    pub unchanged : IsTrue g.tells → IsErrOf result (fault.Memory want) → ((which : Which) → history_of now which ≡ history_of old which)
        × ((host : Host) → Tells old host → Tells now host)
    -- the store tells the host
    pub told : IsTrue g.tells → Tells old before → OnOk result (Tells now after)
    -- at Ok the store isn't stopped
    pub running : OnOk result (is_stopped now ≡ false)
    -- a failed call of a disk was counted by that disk
    pub broken : (which : Which) → IsErrOf result (fault.Disk which) → Rose (g.faults (disk_of which old)) (g.faults (disk_of which now))
    -- no disk's count of faults falls
    pub later : (which : Which) → g.faults (disk_of which old) ≤ g.faults (disk_of which now)
    -- which calls are to fail stays
    pub fuse : IsTrue g.tells → (which : Which) (i : ℕ) → fails_of now which i ≡ fails_of old which i
    -- what is to be kept was kept, or a part of its calls was made
    pub calls : (kept : Kept) → IsKeptWith change puts kept → Keeps kept result
