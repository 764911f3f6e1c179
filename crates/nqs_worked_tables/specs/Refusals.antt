-- States in which several refusals hold at once, so that the order of refusals is seen.
use Rattle.std.specs.Prelude.{ℕ, true, false, List, [], ◌∷◌, map, replicate, codes, None, Some, Result}
use Rattle.nqs_state.specs.State.{Plain}
use Rattle.nqs_rules.specs.Format.{first_queue, new_queue}
use Rattle.nqs_rules.specs.Causes.{first_refusal}
use Rattle.nqs_rules.specs.Limits.{new_complex}
use Rattle.nqs_rules.specs.Devices.{new_device}
use Rattle.nqs_rules.specs.Rows.{submit_causes, delete_causes}
use Rattle.nqs_rules.specs.Handover.{offer_causes}
use Rattle.nqs_rules.specs.Start.{local_causes}
use Rattle.nqs_worked.specs.ScheduleWords.{host, request, named, typed, job_of}
use Rattle.nqs_worked.specs.Definitions.{refused, fresh, far, link, queued, promise, crowded, far_carried}
use Rattle.nqs_types.specs.declared.ids.Named.{Named}
use Rattle.nqs_types.specs.declared.ids.NamedDest.{NamedDest}
use Rattle.nqs_types.specs.declared.request.Job.{Job}
use Rattle.nqs_types.specs.declared.request.Row.{Row}
use Rattle.nqs_types.specs.declared.request.Carried.{Carried}
use Rattle.nqs_types.specs.declared.request.RowState.TheVariants.{Routing, Running}
use Rattle.nqs_types.specs.declared.request.Hold.TheVariants.{User, System}
use Rattle.nqs_types.specs.declared.request.Phase.TheVariants.{Offered}
use Rattle.nqs_types.specs.declared.queue.QueueDef.{QueueDef}
use Rattle.nqs_types.specs.declared.queue.Kind.TheVariants.{Device}
use Rattle.nqs_types.specs.declared.queue.Access.TheVariants.{All, Users}
use Rattle.nqs_types.specs.declared.edit.Edit.{Edit}
use Rattle.nqs_types.specs.declared.refusal.Refusal.{Refusal}
use Rattle.nqs_types.specs.declared.event.Submission.{Submission}
use Rattle.nqs_types.specs.declared.edit.Edit.TheVariants.{Rows}
use Rattle.nqs_types.specs.declared.edit.RowsEdit.TheVariants.{HoldRequest, ReleaseRequest, MoveRequest, ModifyRequest}

-- how a command is answered: a refusal, or none
abbrev pub Answer : Type 0
Answer = Result (Unit {0}) Refusal

-- how each of these edits is refused in a state
abbrev pub refused_each : List Edit → Plain → List Answer
refused_each es s = map (λ e. refused e s) es

-- one edit in several states
abbrev pub refused_at_each : Edit → List Plain → List Answer
refused_at_each e ss = map (λ s. refused e s) ss

-- a device queue with the device laser
abbrev pub printer : QueueDef
printer = record (new_queue (codes "lp") Device None None false []) { devices = codes "laser" ∷ [] }

-- a row in another queue
abbrev pub in_queue : List ℕ → Row (List ℕ) → Row (List ℕ)
in_queue q r = record r { queue = q }

-- requests of four kinds: the first is queued, the second prints, the third is on its way, the user
-- holds the fourth, the system the fifth
abbrev pub of_each_kind : List (Row (List ℕ))
of_each_kind =
    queued 1 ∷ record (in_queue (codes "lp") (queued 2)) { state = Running; starts = 1; device = Some (codes "laser") }
    ∷ record (in_queue (codes "link") (queued 3)) { state = Routing }
    ∷ record (queued 4) { hold = User } ∷ record (queued 5) { hold = System } ∷ []

-- a host with a queue of each kind, a complex, a device that is busy and one that isn't, and
-- requests of each kind
abbrev pub full_house : Plain
full_house = record fresh {
  queues = first_queue ∷ printer ∷ link ∷ [];
  complexes = record (new_complex (codes "both")) { queues = codes "batch" ∷ codes "gone" ∷ [] } ∷ [];
  devices = record (new_device (codes "laser") (codes "plain")) { enabled = true } ∷ new_device (codes "ink") (codes "plain") ∷ [];
  rows = of_each_kind;
  hands = record { peer = host 1; number = 1; id = request 3 0; queue = codes "batch"; since = 0; phase = Offered } ∷ [];
  managers = codes "root" ∷ codes "mia" ∷ [];
  operators = codes "op" ∷ [];
  seq = 9;
  arrivals = 9;
}

-- a destination on beta
abbrev pub to_beta : List ℕ → NamedDest
to_beta q = typed q (codes "beta")

-- a destination on alpha
abbrev pub to_alpha : List ℕ → NamedDest
to_alpha q = typed q (codes "alpha")

-- a destination on a host that isn't there
abbrev pub to_zed : List ℕ → NamedDest
to_zed q = typed q (codes "zed")

-- the batch queue has so many destinations on beta
abbrev pub with_batch_dests : ℕ → Plain
with_batch_dests n = record fresh { queues = record first_queue { dests = replicate n far } ∷ [] }

-- the complex lists a queue that is no batch queue, and the batch queue a device
abbrev pub mixed_up : Plain
mixed_up = record full_house {
  queues = record first_queue { devices = codes "ink" ∷ [] } ∷ printer ∷ link ∷ [];
  complexes = record (new_complex (codes "both")) { queues = codes "lp" ∷ [] } ∷ [];
}

-- a row and a promise of a queue that isn't there, and a running row on a device that isn't there
abbrev pub haunted : Plain
haunted = record fresh {
  rows = record (in_queue (codes "nope") (queued 1)) { state = Running; device = Some (codes "ghost") } ∷ [];
}

-- the batch queue holds two rows of four and a promise of two
abbrev pub holding : Plain
holding = record full_house {
  rows = queued 1 ∷ in_queue (codes "lp") (queued 2) ∷ in_queue (codes "link") (queued 3) ∷ queued 4 ∷ [];
  promises = promise 3 6 ∷ record (promise 4 7) { row = in_queue (codes "link") (queued 7) } ∷ [];
}

-- root is no manager
abbrev pub without_root : Plain
without_root = record full_house { managers = codes "mia" ∷ [] }

-- a queue that refuses for everything that is left of: disabled, pipe-only, no access, a cpu limit,
-- a memory limit
abbrev pub strict : QueueDef
strict = record first_queue { enabled = false; pipe_only = true; access = Users []; limits = record { cpu = Some 5; memory = Some 5 } }

-- the same with one cause less each time
abbrev pub ways_in : List QueueDef
ways_in =
    strict ∷ record strict { enabled = true } ∷ record strict { enabled = true; pipe_only = false }
    ∷ record strict { enabled = true; pipe_only = false; access = All }
    ∷ record first_queue { limits = record { cpu = None; memory = Some 5 } } ∷ []

-- a job that states too much
abbrev pub greedy : Job
greedy = record (job_of (codes "ann")) { limits = record { cpu = Some 6; memory = Some 6 } }

-- its submission to the queue batch
abbrev pub greedy_submission : Submission
greedy_submission = record { queue = Some (codes "batch"); folder = None; job = greedy; script = [] }

-- its row
abbrev pub greedy_row : Row (List ℕ)
greedy_row = record (queued 1) { job = greedy }

-- and its offer by the other host
abbrev pub greedy_carried : Carried
greedy_carried = record far_carried { job = greedy }

-- a host whose only queue this is, without an arrival left
abbrev pub last_arrival : QueueDef → Plain
last_arrival d = record fresh { queues = d ∷ []; seq = 9; arrivals = 18446744073709551615 }

-- the same, full of rows too
abbrev pub crowded_with : QueueDef → Plain
crowded_with d = record (crowded 9999) { queues = d ∷ []; arrivals = 18446744073709551615 }

-- how a submission is refused
abbrev pub submitted_to : Submission → Plain → Answer
submitted_to sub s = first_refusal (submit_causes sub s)

-- how an offer by the first host to the queue batch is refused
abbrev pub offered_to : Carried → Plain → Answer
offered_to c s = first_refusal (offer_causes (host 0) 1 (codes "batch") c s)

-- how the queue batch as a destination on this host refuses a row
abbrev pub moved_to : Row (List ℕ) → Plain → Answer
moved_to r s = first_refusal (local_causes (codes "batch") s r)

-- a deletion in the full house, by a user of a request, with kill or without
abbrev pub deleted_by : List ℕ → ℕ → List Answer
deleted_by user seq = map (λ kill. first_refusal (delete_causes user (named seq (codes "alpha")) kill full_house)) (false ∷ true ∷ [])

-- the requests of the full house as they are typed, one that isn't there, and one of an unknown
-- host
abbrev pub typed_requests : List Named
typed_requests =
    named 1 (codes "alpha") ∷ named 2 (codes "alpha") ∷ named 3 (codes "alpha") ∷ named 4 (codes "alpha") ∷ named 5 (codes "alpha") ∷ named 6 (codes "alpha")
    ∷ named 1 (codes "beta") ∷ named 1 (codes "zed") ∷ []

-- how a hold of each of them is refused
abbrev pub holds_each : Plain → List Answer
holds_each s = map (λ id. refused (Rows (HoldRequest id)) s) typed_requests

-- how a release of each is refused
abbrev pub releases_each : Plain → List Answer
releases_each s = map (λ id. refused (Rows (ReleaseRequest id)) s) typed_requests

-- how a move of each to a queue is refused
abbrev pub moves_each : List ℕ → Plain → List Answer
moves_each q s = map (λ id. refused (Rows (MoveRequest id q)) s) typed_requests

-- how another priority of each is refused
abbrev pub modifies_each : Plain → List Answer
modifies_each s = map (λ id. refused (Rows (ModifyRequest id 1)) s) typed_requests

-- a row that the user holds
abbrev pub held : Row (List ℕ) → Row (List ℕ)
held r = record r { hold = User }

-- all these requests are held
abbrev pub all_held : Plain
all_held = record full_house { rows = map held of_each_kind }

-- the first request in a state, and it states too much
abbrev pub greedy_at : Plain → Plain
greedy_at s = record s { rows = greedy_row ∷ [] }
