-- A small host in the midst of things, for values by hand.
use Rattle.std.specs.Prelude.{ℕ, true, false, List, [], ◌∷◌, codes, None}
use Rattle.nqs_state.specs.State.{Plain}
use Rattle.nqs_types.specs.declared.ids.HostId.{HostId}
use Rattle.nqs_types.specs.declared.ids.RequestId.{RequestId}
use Rattle.nqs_types.specs.declared.ids.Dest.{Dest}
use Rattle.nqs_types.specs.declared.queue.Kind.TheVariants.{Batch, Pipe}
use Rattle.nqs_types.specs.declared.queue.QueueDef.{QueueDef}
use Rattle.nqs_types.specs.declared.request.Job.{Job}
use Rattle.nqs_types.specs.declared.request.Carried.{Carried}
use Rattle.nqs_types.specs.declared.request.Row.{Row}
use Rattle.nqs_types.specs.declared.request.RowState.TheVariants.{Routing, Running}
use Rattle.nqs_types.specs.declared.request.Hand.{Hand}
use Rattle.nqs_types.specs.declared.request.Phase.{Phase}
use Rattle.nqs_types.specs.declared.request.Phase.TheVariants.{Offered, Committed}
use Rattle.nqs_types.specs.declared.request.Promise.{Promise}
use Rattle.nqs_types.specs.declared.request.Peer.{Peer}
use Rattle.nqs_types.specs.declared.request.Stage.{Stage}
use Rattle.nqs_types.specs.declared.request.FileOut.{FileOut}
use Rattle.nqs_types.specs.declared.message.Body.{Body}
use Rattle.nqs_rules.specs.Applied.{first_carried, new_row}
use Rattle.nqs_rules.specs.Find.{host_at}
use Rattle.nqs_rules.specs.Format.{formatted, new_peer, new_queue, no_limits}
use Rattle.nqs_reach.specs.Deliveries.{after_message}

-- the host that the messages come to
abbrev pub alpha : HostId
alpha = host_at 0

-- the host that sends them
abbrev pub beta : HostId
beta = host_at 1

-- a third host
abbrev pub gamma : HostId
gamma = host_at 2

-- a request of a host, by its number
abbrev pub request : ℕ → HostId → RequestId
request seq host = record { seq = seq; host = host }

-- a job of ann's
abbrev pub job : Job
job = record {
  name = codes "date";
  owner = codes "ann";
  priority = 31;
  earliest = 0;
  rerun = true;
  limits = no_limits;
  forms = None;
  out = codes "date.o";
  err = codes "date.e";
  join = false;
}

-- what an offer carries of a request that was never started
abbrev pub carried : RequestId → Carried
carried id = first_carried id job

-- a row of ann's, as it came in at a moment
abbrev pub row : RequestId → List ℕ → ℕ → Row (List ℕ)
row id queue arrival = new_row (carried id) queue arrival (codes "date")

-- the queue batch of a host
abbrev pub batch_of : HostId → Dest
batch_of host = record { queue = codes "batch"; host = host }

-- a pipe queue to both other hosts
abbrev pub link : QueueDef
link = record (new_queue (codes "link") Pipe None None false (batch_of beta ∷ batch_of gamma ∷ [])) { enabled = true; started = true }

-- a handover of a request of alpha
abbrev pub hand : HostId → ℕ → ℕ → Phase → Hand
hand peer number seq phase = record { peer = peer; number = number; id = request seq alpha; queue = codes "batch"; since = 0; phase = phase }

-- a promise for a request of the peer's own
abbrev pub promise : HostId → ℕ → ℕ → ℕ → Promise (List ℕ)
promise peer number seq arrival = record { peer = peer; number = number; row = row (request seq peer) (codes "batch") arrival }

-- a stage to a host
abbrev pub stage : HostId → ℕ → Stage (List ℕ)
stage peer number = record { peer = peer; number = number; path = codes "out"; bytes = codes "done" }

-- a file that is to be written
abbrev pub file : ℕ → FileOut (List ℕ)
file number = record { number = number; path = codes "out"; bytes = codes "done" }

-- what alpha knows of each host
abbrev pub known : Peer
known = record new_peer { next = 4; floor = 4; stage_next = 2 }

-- the request that alpha offers to beta
abbrev pub going : Row (List ℕ)
going = record (row (request 1 alpha) (codes "link") 1) { state = Routing }

-- a request of alpha that runs
abbrev pub busy : Row (List ℕ)
busy = record (row (request 2 alpha) (codes "batch") 2) { state = Running; starts = 1 }

-- the request that alpha offers to gamma
abbrev pub elsewhere : Row (List ℕ)
elsewhere = record (row (request 3 alpha) (codes "link") 3) { state = Routing }

-- Alpha: a request is offered to beta and one to gamma, one runs, one was given to beta; a promise,
-- a stage to each, and a file.
abbrev pub small : Plain
small = record (formatted alpha (codes "alpha" ∷ codes "beta" ∷ codes "gamma" ∷ [])) {
  queues = record (new_queue (codes "batch") Batch None None false []) { enabled = true; started = true } ∷ link ∷ [];
  rows = going ∷ busy ∷ elsewhere ∷ [];
  hands = hand beta 2 1 Offered ∷ hand gamma 3 3 Offered ∷ hand beta 1 4 Committed ∷ [];
  promises = promise beta 5 7 4 ∷ promise gamma 6 8 5 ∷ [];
  peers = known ∷ known ∷ known ∷ [];
  stages = stage beta 1 ∷ stage gamma 1 ∷ [];
  files = file 1 ∷ [];
  seq = 4;
  arrivals = 5;
  file_next = 2;
}

-- alpha after a message of a host
abbrev pub after : HostId → Body → Plain
after from b = after_message (50, record { from = from; to = alpha; body = b }) small
