-- What a call of a node leaves that takes a step: of the node, and of what it said.
use Rattle.std.specs.Prelude.{◌≡◌, ◌⊎◌, ◌↔◌, ◌++◌, ℕ, List, [], IsTrue, OnOk, OnErr, IsErrOf, map}
use Rattle.std.specs.Global.{Vec}
use Rattle.std.specs.Option.{option_map}
use Rattle.std.specs.declared.result.Result.{Result}
use Rattle.nqs_state.specs.State.{Plain}
use Rattle.nqs_base.specs.Want.{want}
use Rattle.nqs_types.specs.declared.event.Output.{Output}
use Rattle.nqs_types.specs.declared.event.Plan.{Plan}
use Rattle.nqs_types.specs.declared.world.Which.{Which}
use Rattle.nqs_outside.specs.declared.disk.Disk as disk
use Rattle.nqs_rules.specs.Starts.{after_change, after_step}
use Rattle.nqs_rules.specs.Stepped.{Stepped, shown}
use Rattle.nqs_store.specs.Sound.{IsSoundHost}
use Rattle.nqs_store.specs.Stops.{StopsBy}
use Rattle.nqs_back.specs.Bare.{emptied, blank, without_bytes}
use Rattle.nqs_node.specs.Carried.{after_kept, IsMade, IsCutBy, IsBrokenOff, IsOneOrOther, IsBlown}
use Rattle.nqs_node.specs.Nodes as nodes
use Rattle.nqs_node.specs.Planned.{Does}
use Rattle.nqs_node.specs.Reading.{zeros, AreShort}
use Rattle.nqs_store.specs.declared.fault.StoreFault.{StoreFault}
use Rattle.nqs_store.specs.declared.fault.StoreFault.TheVariants as fault
use Rattle.nqs_node.specs.declared.node.Node.{Node}

module _ {D : Type 0} {g : disk.Ghosts D} {T : Type 0} (old now : Node D g) where
  -- what a call that may stop the node leaves of its disks
  abbrev pub MayStop : Result T StoreFault → Type 0
  MayStop = StopsBy g (nodes.is_stopped now) (λ which. nodes.disk_of which old) (λ which. nodes.disk_of which now) fault.Disk

  -- what a call leaves, whatever it was to do: a fault says nothing and makes no change
  pub record Leaves (said says : Vec Output) (result : Result T StoreFault) : Type 0 where
    -- the host is sound
    pub sound : IsSoundHost (nodes.content_of now)
    -- its site stays
    pub site : (nodes.content_of now).site ≡ (nodes.content_of old).site
    -- a stopped node refuses, and no other
    pub stopped : IsErrOf result fault.Stopped ↔ IsTrue (nodes.is_stopped old)
    -- which leaves all as it was
    pub refused : IsErrOf result fault.Stopped → (now ≡ old) × (says ≡ said)
    -- a failed call of a disk stops it
    pub stops : MayStop result
    -- a fault adds nothing to what goes out
    pub unsaid : OnErr result (says.items ≡ said.items)
    -- for want of memory nothing happened
    pub memory : IsTrue g.tells → IsErrOf result (fault.Memory want) → nodes.Stays old now
    -- a fault makes no change
    pub unmade : OnErr result (nodes.content_of now ≡ nodes.content_of old)

module _ {D : Type 0} {g : disk.Ghosts D} {T : Type 0} (old now : Node D g) (said says : List Output) where
  -- A plan that does this was carried out, behind what was said before; or a call failed.
  pub record Carries (done : Stepped (List ℕ)) (result : Result T StoreFault) : Type 0 where
    -- the node tells the state after it
    pub told : IsTrue g.tells → (s : Plain) → nodes.Tells old s → OnOk result (nodes.Tells now (after_step done s))
    -- what goes out is what it says
    pub outputs : IsTrue g.tells → (s : Plain) → nodes.Tells old s → OnOk result (says ≡ said ++ map shown done.outputs)
    -- just the calls of the change's commit were made, and none was to fail
    pub made : IsTrue g.tells
        → OnOk result (IsMade (nodes.active_of old) (nodes.fails_of old) (nodes.history_of old) (nodes.history_of now) done.change)
    -- the active journal goes on by it
    pub active : OnOk result (nodes.active_of now ≡ after_kept done.change (nodes.active_of old))
    -- a part of its calls was made, of which only the last may have failed
    pub broken_off : IsTrue g.tells → OnErr result (IsBrokenOff (nodes.active_of old) (nodes.history_of old) (nodes.history_of now) done.change)
    -- which of them failed is the disk's to say, unless it is starved
    pub cut : IsTrue g.tells → (s : Plain) → nodes.Tells old s → (which : Which) → IsErrOf result (fault.Disk which)
        → IsTrue (nodes.is_starved now which) ⊎ (IsBlown (nodes.fails_of old which) (nodes.history_of old which)
        ⊎ IsCutBy (nodes.active_of old) (nodes.fails_of old) (nodes.history_of old) (nodes.history_of now) done.change s which)
    -- at each moment, whatever images the disks may leave, they tell the state before it or the one
    -- after it
    pub any_moment : IsTrue g.tells → (s : Plain) → nodes.Tells old s
        → IsOneOrOther (nodes.active_of old) (nodes.history_of old) (nodes.history_of now) done.change s

  -- A plan was carried out, behind what was said before; or a call failed.
  pub record CarriesOut (plan : Plan) (result : Result T StoreFault) : Type 0 where
    -- over whatever disks it is the host after the change, but for the bytes that are kept
    pub bare : OnOk result (nodes.bare now ≡ after_change (option_map blank plan.change) (nodes.bare old))
    -- and what goes out are the outputs, but for these bytes
    pub alike : OnOk result (map without_bytes says ≡ map without_bytes said ++ map without_bytes plan.outputs)
    -- whatever the disks are, what is sent is short, where what the plan does with as many zeros is
    pub short : (done : Stepped (List ℕ)) → Does zeros plan done → AreShort said → AreShort (map shown done.outputs) → OnOk result (AreShort says)
    -- it does what the plan does
    pub carries : (done : Stepped (List ℕ)) → Does (nodes.bytes_of old) plan done → Carries done result

  -- A step was taken, behind what was said before; or a call failed.
  pub record TakesStep (step : Plain → Stepped (List ℕ)) (result : Result T StoreFault) : Type 0 where
    -- over whatever disks, at Ok its state is that after the step, but for the bytes that are kept
    pub bare : OnOk result (nodes.bare now ≡ emptied (after_step (step (nodes.bare old)) (nodes.bare old)))
    -- and what goes out is the step's, but for these bytes
    pub alike : OnOk result (map without_bytes says ≡ map without_bytes said ++ map without_bytes (map shown (step (nodes.bare old)).outputs))
    -- whatever the disks are, what is sent carries no more than may be sent, where what the step
    -- sends does with as many zeros
    pub short : AreShort said → AreShort (map shown (step (nodes.sized old)).outputs) → OnOk result (AreShort says)
    -- At Ok its disks tell the state after the step, and what goes out is the step's; just the
    -- calls of its change's commit were made, or a part of them; at each moment, whatever images
    -- the disks may leave, they tell the state before the step or the one after it.
    pub carries : (s : Plain) → nodes.Tells old s → Carries (step s) result
