-- Small hosts in which several conditions of a start fail at once.
use Rattle.std.specs.Prelude.{ℕ, Bool, true, false, List, [], ◌∷◌, ◌++◌, map, replicate, codes, Option, None, Some}
use Rattle.nqs_state.specs.State.{Plain}
use Rattle.nqs_rules.specs.Format.{first_queue, new_peer}
use Rattle.nqs_worked.specs.ScheduleWords.{host, request, job_of}
use Rattle.nqs_worked.specs.Definitions.{fresh, link, queued, far, near}
use Rattle.nqs_types.specs.declared.ids.Dest.{Dest}
use Rattle.nqs_types.specs.declared.request.Row.{Row}
use Rattle.nqs_types.specs.declared.request.RowState.TheVariants.{Running, Routing}
use Rattle.nqs_types.specs.declared.request.Hand.{Hand}
use Rattle.nqs_types.specs.declared.request.Peer.{Peer}
use Rattle.nqs_types.specs.declared.request.Phase.TheVariants.{Committed}
use Rattle.nqs_types.specs.declared.queue.Kind.TheVariants.{Device}
use Rattle.nqs_types.specs.declared.queue.ComplexDef.{ComplexDef}
use Rattle.nqs_types.specs.declared.queue.DeviceDef.{DeviceDef}
use Rattle.nqs_types.specs.declared.reason.Reason.{Reason}
use Rattle.nqs_types.specs.declared.reason.DestAnswer.{DestAnswer}
use Rattle.nqs_rules.specs.Reasons.{reason_of, reasons_of, count_before}
use Rattle.nqs_rules.specs.Answers.{answer_of}
use Rattle.nqs_rules.specs.Why.{why_lines}

-- ann's request under a number in a queue, to be started from a moment on
abbrev pub ours : List ℕ → ℕ → Row (List ℕ)
ours queue earliest = record (queued 9) { queue = queue; job = record (job_of (codes "ann")) { earliest = earliest } }

-- somebody's request under a number that runs in a queue
abbrev pub runs : List ℕ → ℕ → List ℕ → Row (List ℕ)
runs owner seq queue = record (queued seq) { queue = queue; job = job_of owner; state = Running; starts = 1 }

-- the reason of a request at the moment 50, where it is the last of the host's rows
abbrev pub told : Plain → Row (List ℕ) → Reason
told s r = reason_of 50 (record s { rows = s.rows ++ r ∷ [] }) r

-- all reasons of a request at the moment 50, where it is the last of the host's rows
abbrev pub all_told : Plain → Row (List ℕ) → List Reason
all_told s r = reasons_of 50 (record s { rows = s.rows ++ r ∷ [] }) r

-- a complex of the queue batch
abbrev pub complex : List ℕ → ℕ → ComplexDef
complex name limit = record { name = name; limit = limit; queues = codes "night" ∷ codes "batch" ∷ [] }

-- a host where a request of ann's and one of bob's run in the queue batch, which is started or not
-- and has these limits, as two complexes and the host have
abbrev pub busy : Bool → Option ℕ → ℕ → ℕ → ℕ → ℕ → Plain
busy started user run one two global = record fresh {
  queues = record first_queue { started = started; user_limit = user; run_limit = run } ∷ [];
  complexes = complex (codes "one") one ∷ complex (codes "two") two ∷ [];
  rows = runs (codes "ann") 1 (codes "batch") ∷ runs (codes "bob") 2 (codes "batch") ∷ [];
  global_limit = global;
}

-- the same without a queue
abbrev pub without_queue : Plain
without_queue = record fresh { queues = [] }

-- a device with forms, enabled or not
abbrev pub device : List ℕ → List ℕ → Bool → DeviceDef
device name forms enabled = record { name = name; forms = forms; enabled = enabled }

-- A host where a request of ann's is printed by the device queue lp on the device ink. The queue is
-- started or not, has these limits and these devices.
abbrev pub printing : Bool → Option ℕ → ℕ → List (List ℕ) → Plain
printing started user run devices = record fresh {
  queues = record first_queue { name = codes "lp"; kind = Device; started = started; user_limit = user; run_limit = run; devices = devices } ∷ [];
  complexes = record { name = codes "one"; limit = 0; queues = codes "lp" ∷ [] } ∷ [];
  devices = device (codes "ink") (codes "plain") true ∷ device (codes "laser") (codes "red") true ∷ device (codes "off") (codes "blue") false ∷ [];
  rows = record (runs (codes "ann") 1 (codes "lp")) { device = Some (codes "ink") } ∷ [];
  global_limit = 0;
}

-- ann's request to be printed on these forms
abbrev pub to_print : Option (List ℕ) → Row (List ℕ)
to_print forms = record (queued 9) { queue = codes "lp"; job = record (job_of (codes "ann")) { forms = forms } }

-- A host whose pipe queue link has a destination on the other host, to which a request of ann's is
-- on its way, and eight handovers are open. The queue is started or not, with these limits.
abbrev pub moving : Bool → Option ℕ → ℕ → Plain
moving started user run = record fresh {
  queues = record link { started = started; user_limit = user; run_limit = run } ∷ [];
  complexes = record { name = codes "one"; limit = 0; queues = codes "link" ∷ [] } ∷ [];
  rows = record (queued 1) { queue = codes "link"; state = Routing } ∷ [];
  hands = replicate 8 (record { peer = host 1; number = 1; id = request 1 0; queue = codes "batch"; since = 7; phase = Committed });
  global_limit = 0;
}

-- ann's request in the pipe queue, which was moved so often
abbrev pub to_move : ℕ → Row (List ℕ)
to_move hops = record (queued 9) { queue = codes "link"; hops = hops }

-- ann's request in the queue batch
abbrev pub waiting : Row (List ℕ)
waiting = ours (codes "batch") 0

-- a request of a priority and an arrival
abbrev pub ranked : ℕ → ℕ → Row (List ℕ)
ranked priority arrival = record (queued arrival) { job = record (job_of (codes "ann")) { priority = priority } }

-- a host whose started queue batch may run five requests, with these rows
abbrev pub lined_up : List (Row (List ℕ)) → Plain
lined_up rows = record fresh { queues = record first_queue { started = true; run_limit = 5 } ∷ []; rows = rows }

-- the reasons of requests in such a host, at the moment 50, which has them besides
abbrev pub told_among : List (Row (List ℕ)) → List (Row (List ℕ)) → List Reason
told_among rows rs = map (told (lined_up rows)) rs

-- how many requests wait before one, at the moment 50, in such a host
abbrev pub counted_among : List (Row (List ℕ)) → Row (List ℕ) → ℕ
counted_among rows r = count_before 50 (lined_up rows) r

-- a request of bob's, of a priority and an arrival
abbrev pub of_bob : ℕ → ℕ → Row (List ℕ)
of_bob priority arrival = record (ranked priority arrival) { job = record (job_of (codes "bob")) { priority = priority } }

-- a handover to the other host
abbrev pub hand : Hand
hand = record { peer = host 1; number = 1; id = request 1 0; queue = codes "batch"; since = 7; phase = Committed }

-- What a destination answered a request at the moment 50, in a host with these handovers that knows
-- this of the other one. These destinations refused it by 19.
abbrev pub answered : Peer → List Hand → List Dest → Dest → DestAnswer
answered p hands refused dest =
    let r = record (queued 9) { refused = map (λ d. record { dest = d; cause = 19 }) refused } in
    answer_of 50 (record fresh { peers = new_peer ∷ p ∷ []; hands = hands }) r dest

-- what is told of a request at the moment 50, where it is the last of the host's rows
abbrev pub asked : Plain → Row (List ℕ) → List (List ℕ)
asked s r = why_lines 50 (record s { rows = s.rows ++ r ∷ [] }) r

-- The host of `moving`, whose queue link has two destinations: one on the other host, which is
-- being handed eight requests, and one here.
abbrev pub parting : Plain
parting = record (moving true None 2) { queues = record link { started = true; run_limit = 2; dests = far ∷ near ∷ [] } ∷ [] }

-- a host that isn't to start anything from its queue batch, with these rows
abbrev pub stopped : List (Row (List ℕ)) → Plain
stopped rows = record (lined_up rows) { queues = record first_queue { run_limit = 5 } ∷ [] }

-- a request of the other host that runs here
abbrev pub from_afar : Row (List ℕ)
from_afar = record (runs (codes "ann") 3 (codes "batch")) { id = request 3 1 }
