-- What a call that may stop a store, or a node over one, leaves of its disks.
use Rattle.std.specs.Prelude.{◌≡◌, ℕ, ◌≤◌, Bool, false, IsTrue, OnOk, IsErrOf}
use Rattle.std.specs.declared.result.Result.{Result}
use Rattle.nqs_types.specs.declared.world.Which.{Which}
use Rattle.nqs_outside.specs.Causes.{Rose}
use Rattle.nqs_outside.specs.declared.disk.Disk as disk

module _ {D : Type 0} (g : disk.Ghosts D) {T E : Type 0} where
  -- By its answer: whether its object is stopped now, and what became of the disks.
  pub record StopsBy (stopped : Bool) (old now : Which → D) (failed : Which → E) (result : Result T E) : Type 0 where
    -- at Ok it isn't stopped
    pub running : OnOk result (stopped ≡ false)
    -- a failed call of a disk stops it, and was counted by that disk
    pub broken : (which : Which) → IsErrOf result (failed which) → IsTrue stopped × Rose (g.faults (old which)) (g.faults (now which))
    -- no disk's count of faults falls
    pub later : (which : Which) → g.faults (old which) ≤ g.faults (now which)
    -- which calls are to fail stays
    pub fuse : IsTrue g.tells → (which : Which) (i : ℕ) → g.fails (now which) i ≡ g.fails (old which) i
