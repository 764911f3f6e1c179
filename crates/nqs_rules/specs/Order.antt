-- The scheduler: which request of which queue starts next.
use Rattle.std.specs.Prelude.{ℕ, Bool, true, not, ◌&&◌, ◌||◌, ◌==◌, nat_lt, nat_le, if◌then◌else◌, List, filter, length, Option, None, Some, is_some}
use Rattle.std.specs.List.{list_all}
use Rattle.nqs_base.specs.Same.{name_eq}
use Rattle.nqs_state.specs.State.{State}
use Rattle.nqs_base_tables.specs.Table.{best_from}
use Rattle.nqs_rules.specs.Tests.{passes, is_running, is_active, is_ready, is_batch, same_host}
use Rattle.nqs_rules.specs.Find.{has_name, find_queue}
use Rattle.nqs_rules.specs.Limits.{is_batch_queue}
use Rattle.nqs_rules.specs.Devices.{free_device}
use Rattle.nqs_rules.specs.Routing.{destination}
use Rattle.nqs_types.specs.declared.request.Row.{Row}
use Rattle.nqs_types.specs.declared.queue.Kind.{Kind}
use Rattle.nqs_types.specs.declared.queue.Kind.TheVariants.{Batch, Device, Pipe}
use Rattle.nqs_types.specs.declared.queue.QueueDef.{QueueDef}
use Rattle.nqs_types.specs.declared.queue.ComplexDef.{ComplexDef}
use Rattle.nqs_types.specs.declared.rule.Choice.{Choice}
use Rattle.nqs_types.specs.declared.rule.Choice.TheVariants.{Launch, Print, TooFar, Local, Hand}
use Rattle.std.specs.Prelude.{slice_get}

-- there is no limit, or the number is below it
abbrev pub below : ℕ → Option ℕ → Bool
below n None = true
below n (Some limit) = nat_lt n limit

-- whether a queue's priority is greater
abbrev pub is_greater : QueueDef → QueueDef → Bool
is_greater a b = nat_lt b.priority a.priority

module _ {E : Type 0} where
  -- whether a request of this queue runs or is on its way
  abbrev pub is_active_in : List ℕ → Row E → Bool
  is_active_in q r = is_active r.state && name_eq q r.queue

  -- the same of an owner's request
  abbrev pub is_active_of : List ℕ → List ℕ → Row E → Bool
  is_active_of q owner r = is_active_in q r && name_eq owner r.job.owner

  -- whether a request runs in a queue of the complex
  abbrev pub runs_in : ComplexDef → Row E → Bool
  runs_in c r = is_running r.state && has_name c.queues r.queue

  -- the row runs in a batch queue
  abbrev pub runs_in_batch : State E → Row E → Bool
  runs_in_batch s r = is_running r.state && passes is_batch_queue (find_queue r.queue s)

  -- the queue isn't of the complex, or the complex has fewer running requests than its limit
  abbrev pub complex_allows : List ℕ → State E → ComplexDef → Bool
  complex_allows q s c = not (has_name c.queues q) || nat_lt (length (filter (runs_in c) s.rows)) c.limit

  -- whether the complexes and the global limit allow another batch request
  abbrev pub batch_allows : List ℕ → State E → Bool
  batch_allows q s = list_all (complex_allows q s) s.complexes && nat_lt (length (filter (runs_in_batch s) s.rows)) s.global_limit

  -- The queue has fewer active requests than its run limit. For a batch queue each complex of it,
  -- and all batch queues together, have fewer running ones than their limits too.
  abbrev pub is_within_limits : QueueDef → State E → Bool
  is_within_limits d s = nat_lt (length (filter (is_active_in d.name) s.rows)) d.run_limit && (not (is_batch d.kind) || batch_allows d.name s)

  -- The queue can do something with the row: a device is free for it, or a destination may be
  -- tried, or it has come too far.
  abbrev pub kind_allows : Kind → QueueDef → ℕ → State E → Row E → Bool
  kind_allows Batch d now s r = true
  kind_allows Device d now s r = is_some (free_device d r.job.forms s)
  kind_allows Pipe d now s r = r.hops == 32 || is_some (destination d now s r)

  -- the row may start at this moment, as far as its queue's limits allow
  abbrev pub is_eligible : QueueDef → ℕ → State E → Row E → Bool
  is_eligible d now s r =
      name_eq d.name r.queue && is_ready r && nat_le r.job.earliest now
      && below (length (filter (is_active_of d.name r.job.owner) s.rows)) d.user_limit && kind_allows d.kind d now s r

  -- greater priority, and among equals the earlier arrival
  abbrev pub comes_before : Row E → Row E → Bool
  comes_before a b = nat_lt b.job.priority a.job.priority || (a.job.priority == b.job.priority && nat_lt a.arrival b.arrival)

  -- a queue's first eligible row, with its place among the rows
  abbrev pub first_eligible : QueueDef → ℕ → State E → Option (ℕ × Row E)
  first_eligible d now s = best_from (is_eligible d now s) comes_before 0 s.rows

  -- the queue is started, within its limits, and has an eligible row
  abbrev pub is_candidate : ℕ → State E → QueueDef → Bool
  is_candidate now s d = d.started && is_within_limits d s && is_some (first_eligible d now s)

  -- the queue that starts next: of greatest priority, and among equals the first created
  abbrev pub next_queue : ℕ → State E → Option (ℕ × QueueDef)
  next_queue now s = best_from (is_candidate now s) is_greater 0 s.queues

-- the choice to print on the first free device, if there is one
abbrev pub print_on : ℕ → Option ℕ → Option Choice
print_on place None = None
print_on place (Some device) = Some (Print place device)

module _ {E : Type 0} where
  -- whether a destination is on this host
  abbrev pub is_local : ℕ → QueueDef → State E → Bool
  is_local dest d s = passes (λ x. same_host s.me x.host) (slice_get d.dests dest)

  -- the choice to move a request, here or to another host, if there is a destination
  abbrev pub move_to : ℕ → QueueDef → State E → Option ℕ → Option Choice
  move_to place d s None = None
  move_to place d s (Some dest) = if is_local dest d s then Some (Local place dest) else Some (Hand place dest)

  -- what is done with an eligible row
  abbrev pub choice_for : Kind → QueueDef → ℕ → State E → ℕ → Row E → Option Choice
  choice_for Batch d now s place r = Some (Launch place)
  choice_for Device d now s place r = print_on place (free_device d r.job.forms s)
  choice_for Pipe d now s place r = if r.hops == 32 then Some (TooFar place) else move_to place d s (destination d now s r)

  -- what is started of a queue, of its first eligible request
  abbrev pub choice_of : QueueDef → ℕ → State E → Option (ℕ × Row E) → Option Choice
  choice_of d now s None = None
  choice_of d now s (Some p) = choice_for d.kind d now s p.0 p.1

  -- what is started, of the queue that comes first
  abbrev pub pick_in : ℕ → State E → Option (ℕ × QueueDef) → Option Choice
  pick_in now s None = None
  pick_in now s (Some q) = choice_of q.1 now s (first_eligible q.1 now s)

  -- what is started next
  abbrev pub pick : ℕ → State E → Option Choice
  pick now s = pick_in now s (next_queue now s)
