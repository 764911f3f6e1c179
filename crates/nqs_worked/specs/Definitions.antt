-- States, changes and texts on which single definitions are computed.
use Rattle.std.specs.Prelude.{ℕ, zero, suc, ◌+◌, ◌-◌, Bool, false, List, [], ◌∷◌, map, replicate, codes, Option, None, Some, Result}
use Rattle.std.specs.List.{list_all}
use Rattle.nqs_state.specs.State.{Plain}
use Rattle.nqs_types.specs.Ids.{id_eq}
use Rattle.nqs_rules.specs.Format.{formatted, first_queue, new_queue, new_peer}
use Rattle.nqs_rules.specs.Causes.{first_refusal}
use Rattle.nqs_rules.specs.Limits.{new_complex}
use Rattle.nqs_rules.specs.Devices.{new_device}
use Rattle.nqs_rules.specs.Applied.{new_row, first_carried, applied}
use Rattle.nqs_rules.specs.Fits.{edit_causes, fits}
use Rattle.nqs_rules.specs.InOrder.{is_site_right, are_parameters_right, are_lists_short, are_keys_distinct, are_distinct, same_number, arrivals_of}
use Rattle.nqs_rules.specs.InOrder.{is_queue_right, is_complex_right, is_row_right, is_promise_right, is_hand_right, has_few_hands, offered_ids}
use Rattle.nqs_rules.specs.InOrder.{is_peer_right, is_stage_right, is_file_right, is_doom_right, is_hold_right, has_hand, is_promise_free, is_hand_of_given}
use Rattle.nqs_rules.specs.World.{Act}
use Rattle.nqs_rules.specs.Run.{run_of, states_of}
use Rattle.nqs_worked.specs.ScheduleWords.{host, request, named, job_of, two_hosts}
use Rattle.nqs_types.specs.declared.ids.Dest.{Dest}
use Rattle.nqs_types.specs.declared.request.Row.{Row}
use Rattle.nqs_types.specs.declared.request.Carried.{Carried}
use Rattle.nqs_types.specs.declared.request.Peer.{Peer}
use Rattle.nqs_base.specs.declared.extent.Extent.{Extent}
use Rattle.nqs_types.specs.declared.event.Submission.{Submission}
use Rattle.nqs_types.specs.declared.event.Output.TheVariants as out
use Rattle.nqs_types.specs.declared.event.Output.{Output}
use Rattle.nqs_types.specs.declared.event.Event.{Event}
use Rattle.nqs_types.specs.declared.message.Body.{Body}
use Rattle.nqs_types.specs.declared.request.Stage.{Stage}
use Rattle.nqs_types.specs.declared.request.FileOut.{FileOut}
use Rattle.nqs_types.specs.declared.request.Hand.{Hand}
use Rattle.nqs_types.specs.declared.request.Phase.{Phase}
use Rattle.nqs_types.specs.declared.request.Phase.TheVariants.{Offered, Committed}
use Rattle.nqs_rules.specs.Step.{step}
use Rattle.nqs_rules.specs.Stepped.{Stepped, makes, message, ready, shown}
use Rattle.nqs_types.specs.declared.request.Promise.{Promise}
use Rattle.nqs_types.specs.declared.request.RowState.TheVariants.{Running, Routing}
use Rattle.nqs_types.specs.declared.queue.Kind.TheVariants.{Pipe}
use Rattle.nqs_types.specs.declared.queue.Access.TheVariants.{Users}
use Rattle.nqs_types.specs.declared.queue.QueueDef.{QueueDef}
use Rattle.nqs_types.specs.declared.change.Change.{Change}
use Rattle.nqs_types.specs.declared.change.Change.TheVariants.{Ended, HandOpened, HandCommitted, Promised}
use Rattle.nqs_types.specs.declared.edit.Edit.{Edit}
use Rattle.nqs_types.specs.declared.refusal.Refusal.{Refusal}
use Rattle.nqs_types.specs.declared.refusal.Refusal.TheVariants.{NotManager, NotOperator, NoQueue, NoComplex, NoDevice, NoRequest, NoHost, NoDefault}
use Rattle.nqs_types.specs.declared.refusal.Refusal.TheVariants.{QueueExists, ComplexExists, DeviceExists, WrongKind, DestExists, NoDest, NotMember, IsMember}
use Rattle.nqs_types.specs.declared.refusal.Refusal.TheVariants.{KeepRoot, NotOwner, Disabled, PipeOnly, NoAccess, RequestRouting, RequestRunning, NotHeld}
use Rattle.nqs_types.specs.declared.refusal.Refusal.TheVariants.{IsHeld, QueueInUse, DeviceBusy, OverCpu, OverMemory, TooMany, HostFull, NumbersUsed}
use Rattle.nqs_types.specs.declared.refusal.Refusal.TheVariants.{RequestExists}

-- the first of two hosts as it is formatted
abbrev pub fresh : Plain
fresh = formatted (host 0) two_hosts

-- the queue `batch` of the other host
abbrev pub far : Dest
far = record { queue = codes "batch"; host = host 1 }

-- the queue of that name of the first host
abbrev pub near : Dest
near = record far { host = host 0 }

-- a pipe queue with a destination on the other host
abbrev pub link : QueueDef
link = new_queue (codes "link") Pipe None None false (far ∷ [])

-- the first host with the queue that it was formatted with, and the pipe queue
abbrev pub with_link : Plain
with_link = record fresh { queues = first_queue ∷ link ∷ [] }

-- states whose lists have so many items

-- so many queues, all alike
abbrev pub with_queues : ℕ → Plain
with_queues n = record fresh { queues = replicate n first_queue }

-- so many complexes, all alike
abbrev pub with_complexes : ℕ → Plain
with_complexes n = record fresh { complexes = replicate n (new_complex (codes "c")) }

-- so many devices, all alike
abbrev pub with_devices : ℕ → Plain
with_devices n = record fresh { devices = replicate n (new_device (codes "d") (codes "f")) }

-- so many managers, all alike
abbrev pub with_managers : ℕ → Plain
with_managers n = record fresh { managers = replicate n (codes "root") }

-- so many operators, all alike
abbrev pub with_operators : ℕ → Plain
with_operators n = record fresh { operators = replicate n (codes "op") }

-- a queue that so many users may use, all alike
abbrev pub with_users : ℕ → Plain
with_users n = record fresh { queues = record first_queue { access = Users (replicate n (codes "bob")) } ∷ [] }

-- a pipe queue with so many destinations, all alike
abbrev pub with_dests : ℕ → Plain
with_dests n = record fresh { queues = record link { dests = replicate n far } ∷ [] }

-- how an edit is refused
abbrev pub refused : Edit → Plain → Result (Unit {0}) Refusal
refused e s = first_refusal (edit_causes e s)

-- requests of the first host

-- what goes to another host with the request of this number
abbrev pub carried : ℕ → Carried
carried seq = first_carried (request seq 0) (record (job_of (codes "ann")) { out = codes "o"; err = codes "e" })

-- it waits in the queue `batch`
abbrev pub queued : ℕ → Row (List ℕ)
queued seq = new_row (carried seq) (codes "batch") seq []

-- it waits in the pipe queue
abbrev pub in_link : ℕ → Row (List ℕ)
in_link seq = record (queued seq) { queue = codes "link" }

-- a destination has refused it
abbrev pub refused_by : Dest → ℕ → Row (List ℕ)
refused_by dest refusal = record (in_link 1) { refused = record { dest = dest; cause = refusal } ∷ [] }

-- it runs, was started so many times, and lost each time but the last
abbrev pub running : ℕ → Row (List ℕ)
running n = record (queued 1) { state = Running; starts = n; lost = n - 1 }

-- a host that has this request and no other
abbrev pub with_row : Row (List ℕ) → Plain
with_row r = record with_link { rows = r ∷ []; seq = 9; arrivals = 9 }

-- its request is on its way to the other host
abbrev pub on_its_way : Plain
on_its_way = applied (HandOpened (host 1) 1 (request 1 0) (codes "batch") 7) (with_row (in_link 1))

-- its request is the other host's, and the handover isn't done yet
abbrev pub handed_over : Plain
handed_over = applied (HandCommitted (host 1) 1) on_its_way

-- a promise to take, by a handover of this number, the other host's request of that number
abbrev pub promise : ℕ → ℕ → Promise (List ℕ)
promise number seq = record { peer = host 1; number = number; row = record (queued seq) { id = request seq 1 } }

-- the host has a promise and no request
abbrev pub with_promise : Plain
with_promise = record fresh { promises = promise 3 3 ∷ []; arrivals = 9 }

-- the host has so many rows and a promise of the other one
abbrev pub crowded : ℕ → Plain
crowded n = record with_promise { rows = replicate n (queued 1) }

-- whether each of the changes fits the host
abbrev pub fit_each : List (Change (List ℕ)) → Plain → List Bool
fit_each cs s = map (λ c. fits c s) cs

-- a submission to the default queue
abbrev pub sample : Submission
sample = record { queue = None; folder = None; job = job_of (codes "ann"); script = [] }

-- a request of the other host
abbrev pub far_carried : Carried
far_carried = record (carried 3) { id = request 3 1 }

-- this is known of the other host
abbrev pub with_peer : Peer → Plain
with_peer p = record with_link { peers = new_peer ∷ p ∷ [] }

-- a peer's floor, and behind it its other closed numbers
abbrev pub closed_numbers : Peer → List ℕ
closed_numbers p = p.floor ∷ p.closed

-- so many numbers, from this one on
abbrev pub upwards : ℕ → ℕ → List ℕ
upwards n zero = []
upwards n (suc more) = n ∷ upwards (n + 1) more

-- a handover to the other host, under a number, of the request with that number
abbrev pub a_hand : Phase → ℕ → Hand
a_hand phase number = record { peer = host 1; number = number; id = request number 0; queue = codes "batch"; since = 0; phase = phase }

-- handovers to the other host, in this phase under these numbers, and the number that it gets next
abbrev pub with_hands : Phase → List ℕ → ℕ → Plain
with_hands phase numbers next = record (with_peer (record new_peer { next = next })) { hands = map (a_hand phase) numbers; seq = 9 }

-- the other host, which was promised the request
abbrev pub with_promised : Plain
with_promised = applied (Promised (host 0) 1 1 (codes "batch") (carried 1) []) (formatted (host 1) two_hosts)

-- a job's end with two outputs, and two files whose bytes are in the spool
abbrev pub planned : Stepped Extent
planned =
    makes (Ended (request 1 0) (record { path = codes "o"; bytes = codes "ab" } ∷ record { path = codes "e"; bytes = codes "c" } ∷ []))
    (ready (out.Ended (request 1 0) 1 0) ∷ (out.File 4 (codes "o") [], Some (record { place = 7; length = 2 }))
    ∷ (out.File 5 (codes "e") [], Some (record { place = 9; length = 3 })) ∷ [])

-- each test of a state in order, and what besides holds of it
abbrev pub order_tests : Plain → List Bool
order_tests s =
    is_site_right s ∷ are_parameters_right s ∷ are_lists_short s ∷ are_keys_distinct s ∷ are_distinct same_number (arrivals_of s)
    ∷ list_all (is_queue_right s) s.queues ∷ list_all (is_complex_right s) s.complexes ∷ list_all (is_row_right s) s.rows
    ∷ list_all (is_promise_right s) s.promises ∷ list_all (is_hand_right s) s.hands
    ∷ list_all (has_few_hands s) s.hands ∷ are_distinct id_eq (offered_ids s) ∷ list_all is_peer_right s.peers
    ∷ list_all (is_stage_right s) s.stages ∷ list_all (is_file_right s) s.files
    ∷ list_all is_doom_right s.rows ∷ list_all is_hold_right s.rows ∷ list_all (has_hand s) s.rows ∷ list_all is_promise_free s.promises
    ∷ list_all (is_hand_of_given s) s.hands ∷ []

-- the host passes each of these tests
abbrev pub is_all_right : Plain → Bool
is_all_right s = list_all (λ b. b) (order_tests s)

-- whether each host of a run ends so
abbrev pub order_told : List (List ℕ) → List Act → List Bool
order_told site acts = map is_all_right (states_of (run_of site acts).world)

-- an output on its way to this host, by its number
abbrev pub a_stage : ℕ → ℕ → Stage (List ℕ)
a_stage peer number = record { peer = host peer; number = number; path = codes "o"; bytes = codes "s" }

-- an output that is to be a file, by its number
abbrev pub a_file : ℕ → FileOut (List ℕ)
a_file number = record { number = number; path = codes "e"; bytes = codes "f" }

-- a host of three that has something of each kind to say again
abbrev pub busy : Plain
busy = record (formatted (host 0) (codes "alpha" ∷ codes "beta" ∷ codes "gamma" ∷ [])) {
  rows = record (in_link 1) { state = Routing; script = codes "date"; hops = 2 } ∷ [];
  hands =
      record { peer = host 1; number = 1; id = request 1 0; queue = codes "batch"; since = 0; phase = Offered }
      ∷ record { peer = host 2; number = 4; id = request 2 0; queue = codes "batch"; since = 0; phase = Committed } ∷ [];
  promises = record (promise 9 9) { peer = host 2 } ∷ promise 3 3 ∷ [];
  stages = a_stage 2 2 ∷ a_stage 1 8 ∷ a_stage 1 7 ∷ a_stage 2 1 ∷ [];
  files = a_file 3 ∷ a_file 4 ∷ [];
}

-- a message of the first host to another one
abbrev pub sends : ℕ → Body → Output
sends to b = message (host 0) (host to) b

-- what goes out of a host at an event
abbrev pub told_at : Event → Plain → List Output
told_at e s = map shown (step e s).outputs

-- what a host records at an event
abbrev pub changed_at : Event → Plain → Option (Change (List ℕ))
changed_at e s = (step e s).change

-- the default queue lists the host's device so many times
abbrev pub listing : ℕ → Plain
listing n = record (with_devices 1) { queues = record first_queue { devices = replicate n (codes "d") } ∷ [] }

-- states that aren't in order, each for one cause
abbrev pub wrong_states : List Plain
wrong_states =
    with_row (record (queued 1) { queue = codes "nope" }) ∷ with_row (record (queued 1) { id = request 10 0 })
    ∷ with_row (record (queued 1) { id = request 0 0 })
    ∷ with_row (record (queued 1) { id = request 1 2 }) ∷ with_row (record (queued 1) { arrival = 10 }) ∷ with_row (record (queued 1) { starts = 1 })
    ∷ with_row (running 65536) ∷ with_row (record (running 1) { lost = 1 }) ∷ with_row (record (queued 1) { state = Routing })
    ∷ with_row (record (queued 1) { hops = 33 })
    ∷ with_row (record (queued 1) { device = Some (codes "laser") }) ∷ record with_promise { promises = promise 3 3 ∷ promise 3 4 ∷ [] }
    ∷ record with_promise { peers = new_peer ∷ record new_peer { floor = 3 } ∷ [] }
    ∷ record with_promise { peers = new_peer ∷ record new_peer { closed = 3 ∷ [] } ∷ [] }
    ∷ with_peer (record new_peer { floor = 3; closed = 3 ∷ [] }) ∷ with_peer (record new_peer { closed = 2 ∷ 2 ∷ [] })
    ∷ record on_its_way { rows = [] } ∷ record fresh { patience = 0 } ∷ listing 2 ∷ []

-- each refusal in turn
abbrev pub refusals : List Refusal
refusals =
    NotManager ∷ NotOperator ∷ NoQueue (codes "q") ∷ NoComplex (codes "c") ∷ NoDevice (codes "d") ∷ NoRequest (named 7 (codes "h")) ∷ NoHost (codes "h")
    ∷ NoDefault
    ∷ QueueExists (codes "q") ∷ ComplexExists (codes "c") ∷ DeviceExists (codes "d") ∷ WrongKind ∷ DestExists ∷ NoDest ∷ NotMember ∷ IsMember ∷ KeepRoot
    ∷ NotOwner
    ∷ Disabled (codes "q") ∷ PipeOnly (codes "q") ∷ NoAccess (codes "q") ∷ RequestRouting (named 7 (codes "h")) ∷ RequestRunning (named 7 (codes "h"))
    ∷ NotHeld (named 7 (codes "h")) ∷ IsHeld (named 7 (codes "h")) ∷ QueueInUse (codes "q") 3 ∷ DeviceBusy (codes "d") ∷ OverCpu (codes "q")
    ∷ OverMemory (codes "q")
    ∷ TooMany ∷ HostFull ∷ NumbersUsed ∷ RequestExists (named 7 (codes "h")) ∷ []
