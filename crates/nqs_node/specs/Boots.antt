-- What a boot of a host leaves: a node, or the disks that came back.
use Rattle.std.specs.Prelude.{◌≡◌, ◌⊎◌, ◌≤◌, ℕ, false, IsTrue, Ok, Some}
use Rattle.nqs_base.specs.Want.{want}
use Rattle.nqs_types.specs.declared.change.Change.TheVariants.{Boot}
use Rattle.nqs_types.specs.declared.world.Which.{Which}
use Rattle.nqs_outside.specs.Causes.{Rose}
use Rattle.nqs_outside.specs.declared.disk.Disk as disk
use Rattle.nqs_rules.specs.Applied.{applied}
use Rattle.nqs_state.specs.State.{Plain}
use Rattle.nqs_state.specs.declared.state.HostState.{HostState}
use Rattle.nqs_store.specs.Active.{Active, IsActive}
use Rattle.nqs_store.specs.Disks.{disk_at, histories_of, failing_of, contents}
use Rattle.nqs_store.specs.Faults.{IsLoadFault}
use Rattle.nqs_store.specs.Images.{IsTold}
use Rattle.nqs_store.specs.Opens.{Loads}
use Rattle.nqs_store.specs.Sound.{IsSoundHost}
use Rattle.nqs_store.specs.declared.disks.Disks.{Disks}
use Rattle.nqs_store.specs.declared.fault.LoadFault.{LoadFault}
use Rattle.nqs_store.specs.declared.fault.LoadFault.TheVariants as load
use Rattle.nqs_store.specs.declared.store.Store.{Store}
use Rattle.nqs_node.specs.Carried.{after_kept, IsMade, IsSpelled, IsCutBy, IsBrokenOff, IsOneOrOther, IsBlown}
use Rattle.nqs_node.specs.Nodes.{disk_of, history_of, fails_of, active_of, content_of, is_stopped, Tells}
use Rattle.nqs_node.specs.declared.node.Node.{Node}

module _ {D : Type 0} {g : disk.Ghosts D} (old : Disks D) where
  -- The disks were loaded: they gave this store and this host.
  abbrev pub IsLoaded : Store D g → HostState → Type 0
  IsLoaded store state = Loads old (Ok (store, state))

  -- The disks told a host, whose boot is kept and made.
  pub record Booted (node : Node D g) : Type 0 where
    -- the host is sound
    pub sound : IsSoundHost (content_of node)
    -- it isn't stopped
    pub running : is_stopped node ≡ false
    -- the disks told a state, and tell the one after the boot
    pub one : IsTrue g.tells → (s : Plain) × IsTold (contents (histories_of g.history old)) s × Tells node (applied Boot s)
    -- whichever state they told
    pub told : IsTrue g.tells → (s : Plain) → IsTold (contents (histories_of g.history old)) s → Tells node (applied Boot s)
    -- just the calls of one record were made, behind those of a checkpoint where one is due, and
    -- none was to fail
    pub made : IsTrue g.tells → (a : Active) → IsActive (contents (histories_of g.history old)) a
        → IsMade a (failing_of g.fails old) (histories_of g.history old) (history_of node) (Some Boot)
    -- and the record spells the boot
    pub spelled : IsTrue g.tells → (a : Active) → IsActive (contents (histories_of g.history old)) a
        → IsSpelled a (histories_of g.history old) (history_of node) (Some Boot)
    -- the active journal goes on by it
    pub active : IsTrue g.tells → (a : Active) → IsActive (contents (histories_of g.history old)) a → active_of node ≡ after_kept (Some Boot) a
    -- which calls are to fail stays
    pub fuse : IsTrue g.tells → (which : Which) (i : ℕ) → fails_of node which i ≡ failing_of g.fails old which i
    -- no disk's count of faults falls
    pub later : (which : Which) → g.faults (disk_at which old) ≤ g.faults (disk_of which node)
    -- at each moment, whatever images the disks may leave, they tell the state before the boot or
    -- the one after it
    pub any_moment : IsTrue g.tells → (s : Plain) → IsTold (contents (histories_of g.history old)) s
        → (a : Active) → IsActive (contents (histories_of g.history old)) a
        → IsOneOrOther a (histories_of g.history old) (history_of node) (Some Boot) s

module _ {D : Type 0} (g : disk.Ghosts D) (old : Disks D) where
  -- Nothing was booted, and the disks came back.
  pub record Unbooted (cause : LoadFault) (now : Disks D) : Type 0 where
    -- a failed call of a disk was counted by that disk
    pub failed : (which : Which) → cause ≡ load.Disk which → Rose (g.faults (disk_at which old)) (g.faults (disk_at which now))
    -- bytes that are refused are at fault there
    pub fault : IsTrue g.tells → (which : Which) (place : ℕ) → cause ≡ load.NotNqs which place → IsLoadFault (contents (histories_of g.history old)) cause
    -- those that tell a state are not refused
    pub never : IsTrue g.tells → (s : Plain) → IsTold (contents (histories_of g.history old)) s → (which : Which) (place : ℕ) → cause ≡ load.NotNqs which place
        → ⊥
    -- want of memory comes before the first call
    pub memory : IsTrue g.tells → cause ≡ load.Memory want → (which : Which) → histories_of g.history now which ≡ histories_of g.history old which
    -- a part of its calls was made, of which only the last may have failed
    pub broken_off : IsTrue g.tells → (a : Active) → IsActive (contents (histories_of g.history old)) a
        → IsBrokenOff a (histories_of g.history old) (histories_of g.history now) (Some Boot)
    -- disks that name no journal are left as they are
    pub untouched : IsTrue g.tells → ((a : Active) → IsActive (contents (histories_of g.history old)) a → ⊥) → (which : Which)
        → histories_of g.history now which ≡ histories_of g.history old which
    -- which of them failed is the disk's to say, unless it is starved
    pub cut : IsTrue g.tells → (s : Plain) → IsTold (contents (histories_of g.history old)) s
        → (a : Active) → IsActive (contents (histories_of g.history old)) a → (which : Which) → cause ≡ load.Disk which
        → IsTrue (g.starved (disk_at which now)) ⊎ (IsBlown (failing_of g.fails old which) (histories_of g.history old which)
        ⊎ IsCutBy a (failing_of g.fails old) (histories_of g.history old) (histories_of g.history now) (Some Boot) s which)
    -- no disk's count of faults falls
    pub later : (which : Which) → g.faults (disk_at which old) ≤ g.faults (disk_at which now)
    -- at each moment, whatever images the disks may leave, they tell the state before the boot or
    -- the one after it
    pub any_moment : IsTrue g.tells → (s : Plain) → IsTold (contents (histories_of g.history old)) s
        → (a : Active) → IsActive (contents (histories_of g.history old)) a
        → IsOneOrOther a (histories_of g.history old) (histories_of g.history now) (Some Boot) s
