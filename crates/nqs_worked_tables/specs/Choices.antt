-- States in which something is to be started: limits at their bounds, rows and queues in each
-- order, devices and destinations.
use Rattle.std.specs.Prelude.{ℕ, true, false, Bool, List, [], ◌∷◌, map, codes, Option, None, Some}
use Rattle.nqs_state.specs.State.{Plain}
use Rattle.nqs_rules.specs.Format.{first_queue, new_queue, new_peer}
use Rattle.nqs_rules.specs.Order.{is_within_limits, comes_before, first_eligible, next_queue}
use Rattle.nqs_rules.specs.Routing.{destination}
use Rattle.nqs_worked.specs.ScheduleWords.{host, job_of}
use Rattle.nqs_worked.specs.Definitions.{fresh, link, queued, in_link}
use Rattle.nqs_worked_tables.specs.Refusals.{printer, in_queue}
use Rattle.nqs_worked_tables.specs.OrderBounds.{on_the_way}
use Rattle.nqs_types.specs.declared.ids.Dest.{Dest}
use Rattle.nqs_types.specs.declared.request.Row.{Row}
use Rattle.nqs_types.specs.declared.request.Peer.{Peer}
use Rattle.nqs_types.specs.declared.request.Hand.{Hand}
use Rattle.nqs_types.specs.declared.request.RowState.TheVariants.{Running, Routing}
use Rattle.nqs_types.specs.declared.queue.Kind.TheVariants.{Batch}
use Rattle.nqs_types.specs.declared.queue.QueueDef.{QueueDef}
use Rattle.nqs_types.specs.declared.queue.DeviceDef.{DeviceDef}

-- a second batch queue
abbrev pub night : QueueDef
night = new_queue (codes "night") Batch None None false []

-- a running row under a number, in a queue
abbrev pub runs : ℕ → List ℕ → Row (List ℕ)
runs seq q = record (in_queue q (queued seq)) { state = Running; starts = 1 }

-- Two requests run in the queue batch, one on its way counts for it, and one waits; one runs in
-- night, and two in a device queue.
abbrev pub loaded : Plain
loaded = record fresh {
  queues = first_queue ∷ night ∷ printer ∷ link ∷ [];
  rows =
      runs 1 (codes "batch") ∷ runs 2 (codes "lp") ∷ queued 3 ∷ runs 4 (codes "night") ∷ record (queued 5) { state = Routing } ∷ runs 6 (codes "batch")
      ∷ runs 7 (codes "lp") ∷ on_the_way 1 ∷ runs 9 (codes "gone") ∷ [];
}

-- complexes of so many running requests: one of both batch queues, one of the other queues
abbrev pub with_both : ℕ → ℕ → Plain
with_both both others = record loaded {
  complexes =
      record { name = codes "both"; limit = both; queues = codes "batch" ∷ codes "night" ∷ [] }
      ∷ record { name = codes "others"; limit = others; queues = codes "lp" ∷ codes "link" ∷ [] } ∷ [];
}

-- whether a queue is within its limits with each of these run limits
abbrev pub within : QueueDef → List ℕ → Plain → List Bool
within d ns s = map (λ n. is_within_limits (record d { run_limit = n }) s) ns

-- ann's row is to be started at 100
abbrev pub timed : Row (List ℕ)
timed = record (queued 3) { job = record (job_of (codes "ann")) { earliest = 100 } }

-- ann and bob have each one active row in a queue, and ann one in another
abbrev pub owned : Plain
owned = record fresh {
  rows =
      timed ∷ runs 4 (codes "batch") ∷ runs 5 (codes "night") ∷ record (runs 6 (codes "batch")) { job = job_of (codes "bob") }
      ∷ record (queued 7) { job = job_of (codes "cy") } ∷ [];
}

-- a row under a number, of a priority and an arrival
abbrev pub ranked : ℕ → ℕ → ℕ → Row (List ℕ)
ranked seq priority arrival = record (queued seq) { job = record (job_of (codes "ann")) { priority = priority }; arrival = arrival }

-- which of two rows comes first, each way round
abbrev pub first_of : Row (List ℕ) → Row (List ℕ) → List Bool
first_of a b = comes_before a b ∷ comes_before b a ∷ []

-- a host whose rows these are
abbrev pub with_rows : List (Row (List ℕ)) → Plain
with_rows rows = record fresh { rows = rows }

-- the place of what was found, if anything
abbrev pub place_of : {V : Type 0} → Option (ℕ × V) → Option ℕ
place_of None = None
place_of (Some p) = Some p.0

-- the place of the row that starts first from a queue
abbrev pub first_place : QueueDef → Plain → Option ℕ
first_place d s = place_of (first_eligible d 50 s)

-- the place of the queue that starts next, where each has a row
abbrev pub next_place : List QueueDef → Option ℕ
next_place ds = place_of (next_queue 50 (record fresh {
  queues = ds;
  rows = queued 1 ∷ in_queue (codes "night") (queued 2) ∷ in_queue (codes "noon") (queued 3)
      ∷ [];
}))

-- a started queue of this name and priority
abbrev pub ready_queue : List ℕ → ℕ → QueueDef
ready_queue name priority = record (new_queue name Batch (Some priority) None false []) { started = true }

-- a device with these forms, enabled or not
abbrev pub device : List ℕ → List ℕ → Bool → DeviceDef
device name forms enabled = record { name = name; forms = forms; enabled = enabled }

-- a device queue with five devices: one is busy, one is disabled, one isn't there, two are free
-- with other forms
abbrev pub five_devices : QueueDef
five_devices = record printer { started = true; devices = codes "busy" ∷ codes "off" ∷ codes "gone" ∷ codes "red" ∷ codes "blue" ∷ [] }

-- a host with these devices, where a row runs on the busy one
abbrev pub workshop : List (Row (List ℕ)) → Plain
workshop rows = record fresh {
  queues = first_queue ∷ record five_devices { run_limit = 9 } ∷ [];
  devices =
      device (codes "blue") (codes "blue") true ∷ device (codes "red") (codes "red") true ∷ device (codes "off") (codes "red") false
      ∷ device (codes "busy") (codes "red") true
      ∷ device (codes "else") (codes "pink") true ∷ [];
  rows = record (runs 1 (codes "lp")) { device = Some (codes "busy") } ∷ rows;
}

-- a row that asks for forms
abbrev pub asking : Option (List ℕ) → Row (List ℕ)
asking forms = record (in_queue (codes "lp") (queued 2)) { job = record (job_of (codes "ann")) { forms = forms } }

-- a destination on a host
abbrev pub to : ℕ → Dest
to place = record { queue = codes "batch"; host = host place }

-- a pipe queue with a destination on each of the others, and then one here
abbrev pub fork : QueueDef
fork = record link { started = true; dests = to 1 ∷ to 2 ∷ to 0 ∷ [] }

-- a host among three that has the fork, with what it knows of the second host and what is on its
-- way
abbrev pub crossing : Peer → List Hand → Plain
crossing p hands = record fresh {
  site = codes "alpha" ∷ codes "beta" ∷ codes "gamma" ∷ [];
  queues = first_queue ∷ fork ∷ [];
  rows = in_link 1 ∷ [];
  peers = new_peer ∷ p ∷ new_peer ∷ [];
  hands = hands;
}

-- the same with this row
abbrev pub crossing_with : Row (List ℕ) → Plain
crossing_with r = record (crossing (record new_peer { next = 5 }) []) { rows = r ∷ [] }

-- the place of the destination that a row is sent to at the moment 50
abbrev pub sent_to : Plain → Row (List ℕ) → Option ℕ
sent_to s r = destination fork 50 s r

-- a row that each of these destinations has refused
abbrev pub refused_by_each : List Dest → Row (List ℕ)
refused_by_each ds = record (in_link 1) { refused = map (λ d. record { dest = d; cause = 3 }) ds }
