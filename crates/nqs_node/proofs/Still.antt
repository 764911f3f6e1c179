-- What a call of a node leaves that made no call of a disk and answers an error; and what is left,
-- whatever is answered at Ok.
use Rattle.std.proofs.Common.{◌≡◌, ◌↔◌, ℕ, List, IsTrue, IsErrOf, Ok, Err, false, refl, le_refl}
use Rattle.std.specs.Global.{Vec}
use Rattle.std.specs.declared.result.Result.{Result}
use Rattle.nqs_state.specs.State.{Plain}
use Rattle.nqs_base.specs.Want.{want}
use Rattle.nqs_base.specs.declared.memory.Memory.{Memory}
use Rattle.nqs_types.specs.declared.event.Output.{Output}
use Rattle.nqs_types.specs.declared.world.Which.{Which}
use Rattle.nqs_outside.specs.declared.disk.Disk as disk
use Rattle.nqs_rules.specs.Stepped.{Stepped}
use Rattle.nqs_store.specs.Sound.{IsSoundHost}
use Rattle.nqs_node.specs.Leaves.{MayStop, Leaves, Carries, TakesStep}
use Rattle.nqs_node.specs.Nodes.{history_of, active_of, content_of, is_stopped, Stays}
use Rattle.nqs_store.specs.declared.fault.StoreFault.{StoreFault}
use Rattle.nqs_store.specs.declared.fault.StoreFault.TheVariants as fault
use Rattle.nqs_node.specs.declared.node.Node.{Node}
use Rattle.nqs_node.proofs.Performing.{still_broken_off}
use Rattle.nqs_node.proofs.Places.{no_error, not_both, node_memory, node_stopped}
use Rattle.nqs_node.proofs.Telling.{one_still}

-- want of memory isn't a refusal
pub memory_no_refusal : {T : Type 0} (memory : Memory) → IsErrOf {T = T} (Err (fault.Memory memory)) fault.Stopped → ⊥
memory_no_refusal memory is = let no : ⊥ = cc in no

-- nor is it a failed call of a disk
pub disk_no_memory : {T : Type 0} (which : Which) → IsErrOf {T = T} (Err (fault.Disk which)) (fault.Memory want) → ⊥
disk_no_memory which is = let no : ⊥ = cc in no

-- no failed call of a disk is one
pub disk_no_refusal : {T : Type 0} (which : Which) → IsErrOf {T = T} (Err (fault.Disk which)) fault.Stopped → ⊥
disk_no_refusal which is = let no : ⊥ = cc in no

-- a node that isn't stopped refuses nothing
pub no_refusal : {D T : Type 0} {g : disk.Ghosts D} {r : Result T StoreFault} (old : Node D g) → is_stopped old ≡ false → (IsErrOf r fault.Stopped → ⊥)
    → IsErrOf r fault.Stopped ↔ IsTrue (is_stopped old)
no_refusal old running none = (λ is. absurd (none is), λ yes. absurd (not_both _ yes running))

-- nothing happened
pub stays_still : {D : Type 0} {g : disk.Ghosts D} (old : Node D g) → Stays old old
stays_still old = record { state = refl; running = refl; active = refl; same = λ which. refl; tells = λ s told. told }

module _ {D : Type 0} {g : disk.Ghosts D} {T : Type 0} (old : Node D g) where
  module _ (e : StoreFault) (no : (which : Which) → IsErrOf {T = T} (Err e) (fault.Disk which) → ⊥) where
    pub stops_still : MayStop {T = T} old old (Err e)
    stops_still = record {
      running = tt;
      broken = λ which is. absurd (no which is);
      later = λ which. le_refl _;
      fuse = λ yes which i. refl;
    }

    pub carries_still : (said says : List Output) (done : Stepped (List ℕ)) → Carries {T = T} old old said says done (Err e)
    carries_still said says done = record {
      told = λ yes s told. tt;
      outputs = λ yes s told. tt;
      made = λ yes. tt;
      active = tt;
      broken_off = λ yes. still_broken_off (active_of old) (history_of old) (history_of old) (λ which. refl) done.change;
      cut = λ yes s told which is. absurd (no which is);
      any_moment = λ yes s told. one_still old s told yes done.change;
    }

    pub takes_still : (said says : List Output) (step : Plain → Stepped (List ℕ)) → TakesStep {T = T} old old said says step (Err e)
    takes_still said says step = record { bare = tt; alike = tt; short = λ was went. tt; carries = λ s told. carries_still said says (step s) }

    leaves_still : IsSoundHost (content_of old) → (out : Vec Output) → IsErrOf {T = T} (Err e) fault.Stopped ↔ IsTrue (is_stopped old)
        → Leaves {T = T} old old out out (Err e)
    leaves_still sound out stopped = record {
      sound = sound;
      site = refl;
      stopped = stopped;
      refused = λ is. (refl, refl);
      stops = stops_still;
      unsaid = refl;
      memory = λ yes is. stays_still old;
      unmade = refl;
    }

  -- it was stopped
  pub refuses_still : IsSoundHost (content_of old) → (out : Vec Output) → IsTrue (is_stopped old) → Leaves {T = T} old old out out (Err fault.Stopped)
  refuses_still sound out stopped = leaves_still fault.Stopped node_stopped sound out (λ is. stopped, λ is. refl)

  -- memory was wanting
  pub wants_still : IsSoundHost (content_of old) → (out : Vec Output) → is_stopped old ≡ false → (memory : Memory)
      → Leaves {T = T} old old out out (Err (fault.Memory memory))
  wants_still sound out running memory =
      leaves_still (fault.Memory memory) (node_memory memory) sound out (no_refusal old running (memory_no_refusal memory))

module _ {D T U : Type 0} {g : disk.Ghosts D} {x : T} {y : U} (old now : Node D g) where
  -- what was carried out, with another answer
  pub carries_true : (said says : List Output) (done : Stepped (List ℕ)) → Carries {T = T} old now said says done (Ok x)
      → Carries {T = U} old now said says done (Ok y)
  carries_true said says done k = record {
    told = k.told;
    outputs = k.outputs;
    made = k.made;
    active = k.active;
    broken_off = λ yes. tt;
    cut = λ yes s told which is. absurd (no_error _ _ is);
    any_moment = k.any_moment;
  }

  pub leaves_true : (said says : Vec Output) → Leaves {T = T} old now said says (Ok x) → Leaves {T = U} old now said says (Ok y)
  leaves_true said says k = record {
    sound = k.sound;
    site = k.site;
    stopped = (λ is. absurd (no_error _ _ is), λ yes. absurd (no_error _ _ (k.stopped.1 yes)));
    refused = λ is. absurd (no_error _ _ is);
    stops = record { running = k.stops.running; broken = λ which is. absurd (no_error _ _ is); later = k.stops.later; fuse = k.stops.fuse };
    unsaid = tt;
    memory = λ yes is. absurd (no_error _ _ is);
    unmade = tt;
  }
