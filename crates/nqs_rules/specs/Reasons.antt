-- Why a request doesn't start: the conditions of the scheduler's rule that fail, in order. First
-- comes what a command or a moment ends. Then come the limits from the narrowest to the widest:
-- what ends under one leaves room under the wider ones too. Devices and destinations come at last.
use Rattle.std.specs.Prelude.{ℕ, Bool, ◌&&◌, nat_lt, nat_le, if◌then◌else◌, List, [], ◌∷◌, ◌++◌, map, filter, length, Option, None, Some, unwrap_or}
use Rattle.nqs_base.specs.Same.{name_eq}
use Rattle.nqs_state.specs.State.{State}
use Rattle.nqs_rules.specs.Tests.{is_queued, is_unheld, is_ready}
use Rattle.nqs_rules.specs.Find.{find_queue}
use Rattle.nqs_rules.specs.Order.{below, is_active_in, is_active_of, runs_in_batch, complex_allows, kind_allows, is_eligible, comes_before}
use Rattle.nqs_types.specs.declared.request.Row.{Row}
use Rattle.nqs_types.specs.declared.request.RowState.{RowState}
use Rattle.nqs_types.specs.declared.request.RowState.TheVariants.{Queued, Routing, Running}
use Rattle.nqs_types.specs.declared.request.Hold.{Hold}
use Rattle.nqs_types.specs.declared.request.Hold.TheVariants.{No, User, System}
use Rattle.nqs_types.specs.declared.queue.Kind.{Kind}
use Rattle.nqs_types.specs.declared.queue.Kind.TheVariants.{Batch, Device, Pipe}
use Rattle.nqs_types.specs.declared.queue.QueueDef.{QueueDef}
use Rattle.nqs_types.specs.declared.queue.ComplexDef.{ComplexDef}
use Rattle.nqs_types.specs.declared.reason.Reason.{Reason}
use Rattle.nqs_types.specs.declared.reason.Reason.TheVariants.{Runs, OnItsWay, HeldByUser, HeldBySystem, NotBefore, NoQueue, QueueStopped, UserLimit}
use Rattle.nqs_types.specs.declared.reason.Reason.TheVariants.{RunLimit, ComplexLimit, GlobalLimit, NoDevice, NoDestination, Next}

-- conditions, each with what is told where it fails
abbrev pub Conditions : Type 0 → Type 0
Conditions A = List (Bool × A)

-- what is told of the first condition that fails, and where none does the last answer
abbrev pub first_failing : {A : Type 0} → Conditions A → A → A
first_failing [] last = last
first_failing (c ∷ cs) last = if c.0 then first_failing cs last else c.1

-- what is told of each condition that fails, in order
abbrev pub failing : {A : Type 0} → Conditions A → List A
failing [] = []
failing (c ∷ cs) = if c.0 then failing cs else c.1 ∷ failing cs

-- a list, and where it is empty the last answer alone
abbrev pub or_last : {A : Type 0} → List A → A → List A
or_last [] last = last ∷ []
or_last (x ∷ xs) last = x ∷ xs

-- why a request that isn't queued doesn't wait
abbrev pub state_reason : RowState → Reason
state_reason Running = Runs
state_reason Routing = OnItsWay
state_reason Queued = OnItsWay

-- who holds a request that is held
abbrev pub hold_reason : Hold → Reason
hold_reason System = HeldBySystem
hold_reason User = HeldByUser
hold_reason No = HeldByUser

module _ {E : Type 0} where
  -- of a request that waits: nobody holds it, and its earliest start has come
  abbrev pub own_conditions : ℕ → Row E → Conditions Reason
  own_conditions now r = (is_unheld r.hold, hold_reason r.hold) ∷ (nat_le r.job.earliest now, NotBefore r.job.earliest) ∷ []

  -- of the request itself: it is queued, nobody holds it, and its earliest start has come
  abbrev pub row_conditions : ℕ → Row E → Conditions Reason
  row_conditions now r = (is_queued r.state, state_reason r.state) ∷ own_conditions now r

  -- of its queue: it is started, and has fewer active requests of the owner than the user limit,
  -- and of all owners than the run limit
  abbrev pub queue_conditions : QueueDef → State E → Row E → Conditions Reason
  queue_conditions d s r =
      (d.started, QueueStopped) ∷ (below (length (filter (is_active_of d.name r.job.owner) s.rows)) d.user_limit, UserLimit (unwrap_or d.user_limit 0))
      ∷ (nat_lt (length (filter (is_active_in d.name) s.rows)) d.run_limit, RunLimit d.run_limit) ∷ []

  -- a complex that the queue is of has fewer running requests than its limit
  abbrev pub complex_condition : QueueDef → State E → ComplexDef → Bool × Reason
  complex_condition d s c = (complex_allows d.name s c, ComplexLimit c.name c.limit)

  -- all batch queues have fewer running requests than the global limit
  abbrev pub global_condition : State E → Bool × Reason
  global_condition s = (nat_lt (length (filter (runs_in_batch s) s.rows)) s.global_limit, GlobalLimit s.global_limit)

  -- of the kind of queue: complexes in order of creation and the global limit, a free device, a
  -- destination that may be tried
  abbrev pub kind_conditions : Kind → QueueDef → ℕ → State E → Row E → Conditions Reason
  kind_conditions Batch d now s r = map (complex_condition d s) s.complexes ++ global_condition s ∷ []
  kind_conditions Device d now s r = (kind_allows Device d now s r, NoDevice r.job.forms) ∷ []
  kind_conditions Pipe d now s r = (kind_allows Pipe d now s r, NoDestination) ∷ []

  -- all conditions of a start of a request that waits in a queue, in order
  abbrev pub wait_conditions : QueueDef → ℕ → State E → Row E → Conditions Reason
  wait_conditions d now s r = own_conditions now r ++ (queue_conditions d s r ++ kind_conditions d.kind d now s r)

  -- all conditions of a start from a queue, in order
  abbrev pub conditions : QueueDef → ℕ → State E → Row E → Conditions Reason
  conditions d now s r = row_conditions now r ++ (queue_conditions d s r ++ kind_conditions d.kind d now s r)

  -- another request comes before this one, and may start from the queue
  abbrev pub goes_first : QueueDef → ℕ → State E → Row E → Row E → Bool
  goes_first d now s r other = comes_before other r && is_eligible d now s other

  -- nothing stands in the way but the order: how many requests of the queue go first
  abbrev pub next_in : QueueDef → ℕ → State E → Row E → Reason
  next_in d now s r = Next (length (filter (goes_first d now s r) s.rows))

  -- the first reason why a request of this queue, if it is there, doesn't start
  abbrev pub reason_in : Option QueueDef → ℕ → State E → Row E → Reason
  reason_in None now s r = first_failing (row_conditions now r) NoQueue
  reason_in (Some d) now s r = first_failing (conditions d now s r) (next_in d now s r)

  -- all that keeps a request that waits in this queue, if it is there; where nothing does, how many
  -- go first
  abbrev pub keeping : Option QueueDef → ℕ → State E → Row E → List Reason
  keeping None now s r = failing (own_conditions now r) ++ NoQueue ∷ []
  keeping (Some d) now s r = or_last (failing (wait_conditions d now s r)) (next_in d now s r)

  -- the reasons of a request of this queue: one where it doesn't wait, else all that keep it
  abbrev pub reasons_in : Option QueueDef → ℕ → State E → Row E → List Reason
  reasons_in o now s r = if is_queued r.state then keeping o now s r else state_reason r.state ∷ []

  -- all reasons why a request doesn't start at a moment, in order
  abbrev pub reasons_of : ℕ → State E → Row E → List Reason
  reasons_of now s r = reasons_in (find_queue r.queue s) now s r

  -- the first reason why a request doesn't start at a moment
  abbrev pub reason_of : ℕ → State E → Row E → Reason
  reason_of now s r = reason_in (find_queue r.queue s) now s r

  -- another request comes before this one, and waits in the same queue: it is ready, and its
  -- earliest start has come
  abbrev pub waits_before : ℕ → Row E → Row E → Bool
  waits_before now r other = comes_before other r && (name_eq r.queue other.queue && is_ready other && nat_le other.job.earliest now)

  -- how many requests wait in the queue of a request before it, whatever hinders them
  abbrev pub count_before : ℕ → State E → Row E → ℕ
  count_before now s r = length (filter (waits_before now r) s.rows)
