-- What a call of the daemon leaves of its node: of its host and disks, and of a step that it took.
use Rattle.std.specs.Prelude.{◌≡◌, ◌≤◌, ◌++◌, ℕ, false, List, IsTrue, OnOk, OnErr, IsErrOf, length}
use Rattle.std.specs.declared.result.Result.{Result}
use Rattle.nqs_base.specs.Want.{want}
use Rattle.nqs_state.specs.State.{Plain}
use Rattle.nqs_types.specs.declared.event.Output.{Output}
use Rattle.nqs_types.specs.declared.world.Which.{Which}
use Rattle.nqs_outside.specs.Causes.{Rose}
use Rattle.nqs_outside.specs.declared.disk.Disk as disk
use Rattle.nqs_rules.specs.Starts.{after_step}
use Rattle.nqs_rules.specs.Stepped.{Stepped}
use Rattle.nqs_store.specs.Sound.{IsSoundHost}
use Rattle.nqs_node.specs.Carried.{after_kept, IsSpelled, IsBrokenOff, IsOneOrOther}
use Rattle.nqs_node.specs.Nodes as nodes
use Rattle.nqs_node.specs.Reading.{AreShort}
use Rattle.nqs_store.specs.declared.fault.StoreFault.{StoreFault}
use Rattle.nqs_store.specs.declared.fault.StoreFault.TheVariants as fault
use Rattle.nqs_node.specs.declared.node.Node.{Node}
use Rattle.nqs_serve.specs.Nodes.{Knows}
use Rattle.nqs_serve.specs.Sends.{AreRight}
use Rattle.nqs_serve.specs.Steps.{said}
use Rattle.nqs_serve.specs.declared.cut.Cut.{Cut}
use Rattle.nqs_serve.specs.declared.cut.Cut.TheVariants as cut

-- a fault of the node cuts an event off by this
abbrev pub Cuts : StoreFault → Cut → Type 0
Cuts e (cut.Disk which) = e ≡ fault.Disk which
Cuts e (cut.Memory memory) = e ≡ fault.Memory memory

module _ {D T E : Type 0} {g : disk.Ghosts D} (old now : Node D g) where
  -- what a call leaves, whatever it was to do, where this error is that a call of a disk failed
  pub record Leaves (disk_failed : Which → E) (result : Result T E) : Type 0 where
    -- the host is sound
    pub sound : IsSoundHost (nodes.content_of now)
    -- its site stays
    pub site : (nodes.content_of now).site ≡ (nodes.content_of old).site
    -- at Ok the node isn't stopped
    pub running : OnOk result (nodes.is_stopped now ≡ false)
    -- no disk's count of faults falls
    pub later : (which : Which) → g.faults (nodes.disk_of which old) ≤ g.faults (nodes.disk_of which now)
    -- a failed call of a disk stops it, and was counted by that disk
    pub broken : (which : Which) → IsErrOf result (disk_failed which) → IsTrue (nodes.is_stopped now)
        × Rose (g.faults (nodes.disk_of which old)) (g.faults (nodes.disk_of which now))

module _ {D : Type 0} {g : disk.Ghosts D} {T : Type 0} (old now : Node D g) (was says : List Output) where
  -- a step was taken, behind what was said before; or a call failed
  pub record TakesStep (step : Plain → Stepped (List ℕ)) (result : Result T Cut) : Type 0 where
    -- at Ok all that was said is right
    pub right : OnOk result (AreRight 16 says)
    -- and carries no more than may be sent
    pub short : OnOk result (AreShort says)
    -- the node tells the state after the step, and what goes out is what the step says
    pub told : (s : Plain) → Knows old s → OnOk result (Knows now (after_step (step s) s) × (says ≡ was ++ said (step s)))
    -- for want of memory it tells the state before it
    pub memory : (s : Plain) → Knows old s → IsErrOf result (cut.Memory want) → Knows now s
    -- nothing that was said before is taken back
    pub longer : length was ≤ length says
    -- a fault adds nothing to what goes out
    pub unsaid : OnErr result (says ≡ was)
    -- and makes no change
    pub unmade : OnErr result (nodes.content_of now ≡ nodes.content_of old)
    -- at Ok the active journal goes on by the step's change
    pub active : (s : Plain) → Knows old s → OnOk result (nodes.active_of now ≡ after_kept (step s).change (nodes.active_of old))
    -- at each moment, whatever images the disks may leave, they tell the state before the step or
    -- the one after it
    pub moments : (s : Plain) → Knows old s
        → IsOneOrOther (nodes.active_of old) (nodes.history_of old) (nodes.history_of now) (step s).change s
    -- at Ok just the calls of its change's commit were made, and its record spells it
    pub whole : (s : Plain) → Knows old s → OnOk result (IsSpelled (nodes.active_of old) (nodes.history_of old) (nodes.history_of now) (step s).change)
    -- at a fault a part of them
    pub broken_off : (s : Plain) → Knows old s
        → OnErr result (IsBrokenOff (nodes.active_of old) (nodes.history_of old) (nodes.history_of now) (step s).change)
    -- and none for want of memory
    pub still : (s : Plain) → Knows old s → IsErrOf result (cut.Memory want) → (which : Which) → nodes.history_of now which ≡ nodes.history_of old which
