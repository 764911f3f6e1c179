-- What each reason says of a request, in words of its host's state.
use Rattle.std.specs.Prelude.{◌≡◌, ◌⊎◌, ℕ, ◌<◌, ◌≤◌, ◌==◌, Bool, true, false, not, ◌&&◌, ◌||◌, List, [], ◌∷◌, filter, length, Option, None, Some}
use Rattle.std.specs.List.{list_any}
use Rattle.nqs_base.specs.Same.{name_eq}
use Rattle.nqs_state.specs.State.{Plain}
use Rattle.nqs_types.specs.RowStates.{is_routing, is_running}
use Rattle.nqs_types.specs.declared.request.RowState.TheVariants.{Queued, Routing, Running}
use Rattle.nqs_types.specs.declared.request.Hold.TheVariants.{User, System}
use Rattle.nqs_types.specs.declared.queue.Kind.TheVariants.{Batch, Device, Pipe}
use Rattle.nqs_types.specs.declared.queue.QueueDef.{QueueDef}
use Rattle.nqs_types.specs.declared.queue.ComplexDef.{ComplexDef}
use Rattle.nqs_types.specs.declared.queue.DeviceDef.{DeviceDef}
use Rattle.nqs_types.specs.declared.reason.Reason.{Reason}
use Rattle.nqs_types.specs.declared.reason.Reason.TheVariants.{Runs, OnItsWay, HeldByUser, HeldBySystem, NotBefore, NoQueue, QueueStopped, UserLimit}
use Rattle.nqs_types.specs.declared.reason.Reason.TheVariants.{RunLimit, ComplexLimit, GlobalLimit, NoDevice, NoDestination, Next}
use Rattle.nqs_rules.specs.Tests.{passes, is_batch}
use Rattle.nqs_rules.specs.Find.{has_name, find_queue, find_device}
use Rattle.nqs_rules.specs.Picked.{PlainRow, may_start}
use Rattle.nqs_rules.specs.Order.{is_eligible, comes_before}
use Rattle.nqs_rules.specs.Answers.{answer_of}
use Rattle.nqs_reasons.specs.Chosen.{may_be_tried}

-- a list has a value
abbrev pub Has : {A : Type 0} → List A → A → Type 0
Has [] value = ⊥
Has (x ∷ xs) value = (x ≡ value) ⊎ Has xs value

-- how many requests of the host pass a test
abbrev pub number : (PlainRow → Bool) → Plain → ℕ
number test s = length (filter test s.rows)

-- a request runs in the queue, or is on its way from there
abbrev pub has_left : List ℕ → PlainRow → Bool
has_left queue r = (is_running r.state || is_routing r.state) && name_eq queue r.queue

-- the same of a request of the owner
abbrev pub has_left_of : List ℕ → List ℕ → PlainRow → Bool
has_left_of queue owner r = has_left queue r && name_eq owner r.job.owner

-- a request runs in a queue of the complex
abbrev pub runs_in_one : List (List ℕ) → PlainRow → Bool
runs_in_one queues r = is_running r.state && has_name queues r.queue

-- a request runs in a batch queue
abbrev pub runs_script : Plain → PlainRow → Bool
runs_script s r = is_running r.state && passes (λ d. is_batch d.kind) (find_queue r.queue s)

-- a request runs on the device
abbrev pub is_printed_on : List ℕ → PlainRow → Bool
is_printed_on device r = is_running r.state && passes (name_eq device) r.device

-- the forms are those of the device, where some are asked for
abbrev pub suits : Option (List ℕ) → DeviceDef → Bool
suits None device = true
suits (Some forms) device = name_eq forms device.forms

-- the device is there, enabled and of the forms, and nothing runs on it
abbrev pub could_print : Option (List ℕ) → Plain → List ℕ → Bool
could_print forms s name = passes (λ device. device.enabled && suits forms device) (find_device name s) && not (list_any (is_printed_on name) s.rows)

-- a complex that has the queue and this limit, and in whose queues so many requests run or more
abbrev pub IsFull : Plain → QueueDef → ℕ → ComplexDef → Type 0
IsFull s d limit c = (c.limit ≡ limit) × (has_name c.queues d.name ≡ true) × (limit ≤ number (runs_in_one c.queues) s)

-- the queue of a request is there, and this is so of it
abbrev pub OfQueue : Plain → PlainRow → (QueueDef → Type 0) → Type 0
OfQueue s r P = (d : QueueDef) × (find_queue r.queue s ≡ Some d) × P d

-- the request is next in this queue: it may start, and so many that may start come before it
abbrev pub IsNextBehind : ℕ → Plain → PlainRow → ℕ → QueueDef → Type 0
IsNextBehind now s r count d =
    ((may_start now s d && is_eligible d now s r) ≡ true) × (number (λ other. comes_before other r && is_eligible d now s other) s ≡ count)

-- what a reason says of a request at a moment
abbrev pub Says : ℕ → Plain → PlainRow → Reason → Type 0
Says now s r Runs = r.state ≡ Running
Says now s r OnItsWay = r.state ≡ Routing
Says now s r HeldByUser = (r.state ≡ Queued) × (r.hold ≡ User)
Says now s r HeldBySystem = (r.state ≡ Queued) × (r.hold ≡ System)
Says now s r (NotBefore moment) = (r.state ≡ Queued) × (r.job.earliest ≡ moment) × (now < moment)
Says now s r NoQueue = (r.state ≡ Queued) × (find_queue r.queue s ≡ None)
Says now s r QueueStopped = (r.state ≡ Queued) × OfQueue s r (λ d. d.started ≡ false)
Says now s r (UserLimit limit) = (r.state ≡ Queued) × OfQueue s r (λ d. (d.user_limit ≡ Some limit) × (limit ≤ number (has_left_of d.name r.job.owner) s))
Says now s r (RunLimit limit) = (r.state ≡ Queued) × OfQueue s r (λ d. (d.run_limit ≡ limit) × (limit ≤ number (has_left d.name) s))
Says now s r (ComplexLimit name limit) =
    (r.state ≡ Queued) × OfQueue s r (λ d. (d.kind ≡ Batch) × ((c : ComplexDef) × Has s.complexes c × (c.name ≡ name) × IsFull s d limit c))
Says now s r (GlobalLimit limit) = (r.state ≡ Queued) × OfQueue s r (λ d. (d.kind ≡ Batch) × (s.global_limit ≡ limit) × (limit ≤ number (runs_script s) s))
Says now s r (NoDevice forms) =
    (r.state ≡ Queued) × OfQueue s r (λ d. (d.kind ≡ Device) × (r.job.forms ≡ forms) × (list_any (could_print forms s) d.devices ≡ false))
Says now s r NoDestination =
    (r.state ≡ Queued)
    × OfQueue s r (λ d. (d.kind ≡ Pipe) × ((r.hops == 32) ≡ false) × (list_any (λ dest. may_be_tried (answer_of now s r dest)) d.dests ≡ false))
Says now s r (Next count) = (r.state ≡ Queued) × OfQueue s r (IsNextBehind now s r count)
