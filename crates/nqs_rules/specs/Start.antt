-- What a host starts.
use Rattle.std.specs.Prelude.{ℕ, ◌+◌, not, List, [], ◌∷◌, ◌++◌, slice_get, Option, None, Some, Result, Ok, Err}
use Rattle.std.specs.Option.{option_map, option_and_then, option_or}
use Rattle.nqs_state.specs.State.{State}
use Rattle.nqs_rules.specs.Causes.{Cause, cause, first_refusal, refusal_number}
use Rattle.nqs_rules.specs.Find.{has_queue, find_queue}
use Rattle.nqs_rules.specs.Rows.{causes_of, move_entry_causes, arrivals_used}
use Rattle.nqs_rules.specs.Order.{pick}
use Rattle.nqs_rules.specs.Stepped.{Stepped, makes}
use Rattle.nqs_rules.specs.Handover.{open_hand}
use Rattle.nqs_types.specs.declared.ids.Dest.{Dest}
use Rattle.nqs_types.specs.declared.request.Limits.{Limits}
use Rattle.nqs_types.specs.declared.request.Row.{Row}
use Rattle.nqs_types.specs.declared.queue.QueueDef.{QueueDef}
use Rattle.nqs_types.specs.declared.rule.Choice.{Choice}
use Rattle.nqs_types.specs.declared.rule.Choice.TheVariants.{Launch, Print, TooFar, Local, Hand}
use Rattle.nqs_types.specs.declared.refusal.Refusal.{Refusal}
use Rattle.nqs_types.specs.declared.refusal.Refusal.TheVariants.{NoQueue, NumbersUsed}
use Rattle.nqs_types.specs.declared.change.Change.TheVariants.{Started, HeldFar, MovedLocal, RefusedLocal}
use Rattle.nqs_types.specs.declared.event.LaunchOrder.{LaunchOrder}
use Rattle.nqs_types.specs.declared.event.Output.TheVariants as out

-- a request's limits, and where it states none the queue's
abbrev pub limits_of : Limits → Option QueueDef → Limits
limits_of l None = l
limits_of l (Some d) = record { cpu = option_or l.cpu d.limits.cpu; memory = option_or l.memory d.limits.memory }

module _ {E : Type 0} where
  -- what the launcher of a job is told
  abbrev pub order_of : Row E → State E → LaunchOrder
  order_of r s = record {
    id = r.id;
    start = r.starts + 1;
    name = r.job.name;
    owner = r.job.owner;
    queue = r.queue;
    limits = limits_of r.job.limits (find_queue r.queue s);
  }

  -- a job is launched
  abbrev pub launching : Row E → State E → Stepped E
  launching r s = makes (Started r.id None) ((out.Launch (order_of r s) [], Some r.script) ∷ [])

  -- a request is printed on a device
  abbrev pub printing : List ℕ → Row E → State E → Stepped E
  printing device r s = makes (Started r.id (Some device)) ((out.Print device (order_of r s) [], Some r.script) ∷ [])

  -- the causes for which a queue of this host refuses the row, in order
  abbrev pub local_causes : List ℕ → State E → Row E → List Cause
  local_causes queue s r = cause (not (has_queue queue s)) (NoQueue queue) ∷ causes_of (move_entry_causes r) (find_queue queue s)
      ++ cause (arrivals_used s) NumbersUsed ∷ []

  -- a request is moved to a queue of this host, or refused there
  abbrev pub moving_by : Result (Unit {0}) Refusal → List ℕ → Row E → Stepped E
  moving_by (Ok _) queue r = makes (MovedLocal r.id queue) []
  moving_by (Err refusal) queue r = makes (RefusedLocal r.id queue (refusal_number refusal)) []

  -- the same, by what the queue says
  abbrev pub moving : Dest → State E → Row E → Stepped E
  moving dest s r = moving_by (first_refusal (local_causes dest.queue s r)) dest.queue r

  -- the system holds a request that has moved too often
  abbrev pub holding : Row E → Stepped E
  holding r = makes (HeldFar r.id) []

  -- the row at a place of the list of rows, and its queue's device or destination at a place of
  -- that list

  -- what is done with the request at a place
  abbrev pub with_row : ℕ → State E → (Row E → Option (Stepped E)) → Option (Stepped E)
  with_row place s f = option_and_then f (slice_get s.rows place)

  -- the device at a place of a request's queue
  abbrev pub device_at : ℕ → Row E → State E → Option (List ℕ)
  device_at place r s = option_and_then (λ d. slice_get d.devices place) (find_queue r.queue s)

  -- the destination at a place of a request's queue
  abbrev pub dest_at : ℕ → Row E → State E → Option Dest
  dest_at place r s = option_and_then (λ d. slice_get d.dests place) (find_queue r.queue s)

  -- what is done with a choice
  abbrev pub started : Choice → ℕ → State E → Option (Stepped E)
  started (Launch row) now s = with_row row s (λ r. Some (launching r s))
  started (Print row device) now s = with_row row s (λ r. option_map (λ d. printing d r s) (device_at device r s))
  started (TooFar row) now s = with_row row s (λ r. Some (holding r))
  started (Local row dest) now s = with_row row s (λ r. option_map (λ d. moving d s r) (dest_at dest r s))
  started (Hand row dest) now s = with_row row s (λ r. option_map (λ d. open_hand d now s r) (dest_at dest r s))

  -- what a choice starts
  abbrev pub start_by : Option Choice → ℕ → State E → Option (Stepped E)
  start_by None now s = None
  start_by (Some c) now s = started c now s

  -- what a host starts at a moment, if anything
  abbrev pub start : ℕ → State E → Option (Stepped E)
  start now s = start_by (pick now s) now s
