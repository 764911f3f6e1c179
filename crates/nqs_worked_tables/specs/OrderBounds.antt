-- States in which one item of a state in order is at its bound, and next to it.
use Rattle.std.specs.Prelude.{ℕ, zero, suc, Bool, true, List, [], ◌∷◌, ◌++◌, map, replicate, codes, None, Some}
use Rattle.nqs_state.specs.State.{Plain}
use Rattle.nqs_rules.specs.Format.{formatted, first_queue, new_peer}
use Rattle.nqs_rules.specs.Limits.{new_complex}
use Rattle.nqs_rules.specs.Devices.{new_device}
use Rattle.nqs_rules.specs.InOrder.{is_queue_right, is_row_right, is_promise_right}
use Rattle.nqs_worked.specs.ScheduleWords.{host, request}
use Rattle.nqs_worked.specs.Definitions.{fresh, far, with_link, queued, in_link, promise, a_stage, a_file}
use Rattle.nqs_worked_tables.specs.Bounds.{bytes, bad_path, site_of, pathed}
use Rattle.nqs_types.specs.declared.ids.HostId.{HostId}
use Rattle.nqs_types.specs.declared.ids.RequestId.{RequestId}
use Rattle.nqs_types.specs.declared.request.Row.{Row}
use Rattle.nqs_types.specs.declared.request.Hand.{Hand}
use Rattle.nqs_types.specs.declared.request.Promise.{Promise}
use Rattle.nqs_types.specs.declared.request.RowState.TheVariants.{Routing, Running}
use Rattle.nqs_types.specs.declared.request.Phase.{Phase}
use Rattle.nqs_types.specs.declared.request.Phase.TheVariants.{Offered, Committed}
use Rattle.nqs_types.specs.declared.queue.QueueDef.{QueueDef}
use Rattle.nqs_types.specs.declared.queue.Access.TheVariants.{Users}
use Rattle.nqs_types.specs.declared.queue.ComplexDef.{ComplexDef}

-- the host at a place of a site of so many, which knows of so many
abbrev pub sited : ℕ → ℕ → ℕ → Plain
sited place hosts peers = record (formatted (host place) (site_of hosts)) { peers = replicate peers new_peer }

-- a host with two devices
abbrev pub with_two_devices : Plain
with_two_devices = record fresh { devices = new_device (codes "laser") (codes "plain") ∷ new_device (codes "ink") (codes "plain") ∷ [] }

-- so many names, each of one byte
abbrev pub names : ℕ → List (List ℕ)
names zero = []
names (suc n) = (n ∷ []) ∷ names n

-- whether a queue of a host that has all these devices may list them
abbrev pub may_list : ℕ → Bool
may_list n = is_queue_right (record fresh { devices = map (λ d. new_device d (codes "plain")) (names n) }) (record first_queue { devices = names n })

-- queues that may be: the first seven, and none behind them
abbrev pub queue_bounds : List QueueDef
queue_bounds =
    record first_queue { priority = 63 } ∷ record first_queue { run_limit = 10000 } ∷ record first_queue { user_limit = Some 10000 }
    ∷ record first_queue { user_limit = None }
    ∷ record first_queue { access = Users (replicate 256 (codes "bob")) } ∷ record first_queue { dests = replicate 16 far }
    ∷ record first_queue { devices = codes "laser" ∷ codes "ink" ∷ [] }
    ∷ record first_queue { priority = 64 } ∷ record first_queue { run_limit = 10001 } ∷ record first_queue { user_limit = Some 10001 }
    ∷ record first_queue { access = Users (replicate 257 (codes "bob")) } ∷ record first_queue { dests = replicate 17 far }
    ∷ record first_queue { dests = far ∷ record far { host = host 2 } ∷ [] }
    ∷ record first_queue { devices = codes "laser" ∷ codes "ink" ∷ codes "laser" ∷ [] }
    ∷ record first_queue { devices = codes "laser" ∷ codes "none" ∷ [] } ∷ []

-- a complex with this limit and these queues
abbrev pub complex : ℕ → List (List ℕ) → ComplexDef
complex limit queues = record (new_complex (codes "c")) { limit = limit; queues = queues }

-- a host of two that has given 9 numbers and 9 arrivals, with a link, a device, and this row as its
-- only one
abbrev pub home : Row (List ℕ) → Plain
home r = record with_link { devices = new_device (codes "laser") (codes "plain") ∷ []; rows = r ∷ []; seq = 9; arrivals = 9 }

-- whether the row may be that host's only one
abbrev pub is_row_of_home : Row (List ℕ) → Bool
is_row_of_home r = is_row_right (home r) r

-- a running row with so many starts and losses
abbrev pub started : ℕ → ℕ → Row (List ℕ)
started starts lost = record (queued 1) { state = Running; starts = starts; lost = lost }

-- a queued row with so many
abbrev pub waiting : ℕ → ℕ → Row (List ℕ)
waiting starts lost = record (queued 1) { starts = starts; lost = lost }

-- a row on its way with so many hops
abbrev pub on_the_way : ℕ → Row (List ℕ)
on_the_way hops = record (in_link 1) { state = Routing; hops = hops }

-- a row that a destination on a host has refused
abbrev pub refused_at : HostId → Row (List ℕ)
refused_at h = record (queued 1) { refused = record { dest = record { queue = codes "any"; host = h }; cause = 3 } ∷ [] }

-- rows that may be
abbrev pub right_rows : List (Row (List ℕ))
right_rows =
    queued 1 ∷ queued 9 ∷ record (queued 1) { id = request 10 1 } ∷ record (queued 1) { id = request 4294967294 1 }
    ∷ record (queued 1) { job = record pathed { priority = 63 } }
    ∷ record (queued 1) { arrival = 9 } ∷ refused_at (host 1) ∷ waiting 65534 65534 ∷ started 65535 65534 ∷ started 1 0
    ∷ record (started 1 0) { device = Some (codes "laser") }
    ∷ record (queued 1) { hops = 32 } ∷ record (started 1 0) { hops = 32 } ∷ on_the_way 31 ∷ []

-- rows that may not be
abbrev pub wrong_rows : List (Row (List ℕ))
wrong_rows =
    record (queued 1) { id = request 10 0 } ∷ record (queued 1) { id = request 0 1 } ∷ record (queued 1) { id = request 4294967295 1 }
    ∷ record (queued 1) { id = request 1 2 }
    ∷ record (queued 1) { job = record pathed { priority = 64 } } ∷ record (queued 1) { job = record pathed { out = bad_path } }
    ∷ record (queued 1) { queue = codes "nope" }
    ∷ record (queued 1) { arrival = 10 } ∷ refused_at (host 2) ∷ waiting 65535 65535 ∷ started 65536 65535 ∷ started 1 1 ∷ started 2 0 ∷ started 0 0
    ∷ waiting 1 0 ∷ waiting 0 1
    ∷ record (started 1 0) { device = Some (codes "none") } ∷ record (queued 1) { device = Some (codes "laser") }
    ∷ record (on_the_way 0) { device = Some (codes "laser") }
    ∷ record (queued 1) { hops = 33 } ∷ record (started 1 0) { hops = 33 } ∷ on_the_way 32 ∷ record (on_the_way 0) { starts = 1 } ∷ []

-- a promise under a number to a host whose numbers are closed up to 2, and 4
abbrev pub is_promise_of_home : Promise (List ℕ) → Bool
is_promise_of_home p = is_promise_right (record (home (queued 1)) { peers = new_peer ∷ record new_peer { floor = 2; closed = 4 ∷ [] } ∷ [] }) p

-- a promise with this row
abbrev pub promise_with : Row (List ℕ) → Promise (List ℕ)
promise_with r = record (promise 3 3) { row = r }

-- promises: the first two may be, and none behind them
abbrev pub promise_bounds : List (Promise (List ℕ))
promise_bounds =
    promise 3 3 ∷ promise 9 9 ∷ promise 2 3 ∷ promise 4 3 ∷ promise 0 3 ∷ record (promise 3 3) { peer = host 2 }
    ∷ promise_with (started 1 0) ∷ promise_with (on_the_way 1)
    ∷ promise_with (record (queued 1) { hops = 33 })
    ∷ promise_with (record (queued 1) { queue = codes "nope" }) ∷ []

-- a handover to a host, under a number, of a request, in a phase
abbrev pub hand : ℕ → ℕ → RequestId → Phase → Hand
hand to number id phase = record { peer = host to; number = number; id = id; queue = codes "batch"; since = 0; phase = phase }

-- a host on whose way is its request 1, that runs its request 2, and whose next handover to the
-- other one is 3
abbrev pub handing : Plain
handing = record (home (on_the_way 1)) {
  rows = on_the_way 1 ∷ record (started 1 0) { id = request 2 0 } ∷ record (queued 3) { hops = 1 }
      ∷ [];
  peers = new_peer ∷ record new_peer { next = 3 } ∷ [];
}

-- handovers that may be: the first four, and none behind them
abbrev pub hand_bounds : List Hand
hand_bounds =
    hand 1 1 (request 1 0) Offered ∷ hand 1 2 (request 1 0) Offered ∷ hand 1 2 (request 8 0) Committed ∷ hand 1 2 (request 3 0) Committed
    ∷ hand 1 0 (request 1 0) Offered ∷ hand 1 3 (request 1 0) Offered ∷ hand 1 1 (request 2 0) Offered ∷ hand 1 1 (request 3 0) Offered
    ∷ hand 1 1 (request 8 0) Offered
    ∷ hand 2 1 (request 1 0) Offered ∷ hand 1 1 (request 0 0) Committed ∷ hand 1 1 (request 1 2) Committed ∷ hand 1 3 (request 8 0) Committed
    ∷ hand 0 1 (request 8 0) Committed ∷ []

-- so many handovers to the second host, and one to the third
abbrev pub with_hands : ℕ → Plain
with_hands n = record fresh { hands = replicate n (hand 1 1 (request 8 0) Committed) ++ hand 2 1 (request 8 0) Committed ∷ [] }

-- a host whose next stage to the other one is 3, and whose next file is 3
abbrev pub staging : Plain
staging = record fresh { peers = new_peer ∷ record new_peer { stage_next = 3 } ∷ []; file_next = 3 }

-- lists of everything that has a key, each key once: names that differ, numbers that differ or
-- whose hosts differ
abbrev pub apart : Plain
apart = record fresh {
  queues = first_queue ∷ record first_queue { name = codes "bat" } ∷ record first_queue { name = codes "batch2" } ∷ [];
  complexes = new_complex (codes "c") ∷ new_complex (codes "d") ∷ [];
  devices = new_device (codes "c") (codes "plain") ∷ new_device (codes "d") (codes "plain") ∷ [];
  rows = queued 1 ∷ queued 2 ∷ record (queued 1) { id = request 1 1 } ∷ [];
  hands = hand 1 1 (request 8 0) Committed ∷ hand 1 2 (request 8 0) Committed ∷ hand 2 1 (request 8 0) Offered ∷ [];
  promises = promise 1 1 ∷ promise 2 1 ∷ record (promise 1 1) { peer = host 0 } ∷ [];
  stages = a_stage 1 1 ∷ a_stage 1 2 ∷ a_stage 2 1 ∷ [];
  files = a_file 1 ∷ a_file 2 ∷ [];
}

-- the same with one key twice
abbrev pub not_apart : List Plain
not_apart =
    record apart { queues = first_queue ∷ record first_queue { name = codes "night" } ∷ first_queue ∷ [] }
    ∷ record apart { complexes = new_complex (codes "c") ∷ new_complex (codes "d") ∷ new_complex (codes "d") ∷ [] }
    ∷ record apart { devices = new_device (codes "c") (codes "plain") ∷ new_device (codes "c") (codes "red") ∷ [] }
    ∷ record apart { rows = queued 1 ∷ queued 2 ∷ in_link 1 ∷ [] }
    ∷ record apart { hands = hand 1 1 (request 8 0) Committed ∷ hand 1 1 (request 9 0) Offered ∷ [] }
    ∷ record apart { promises = promise 1 1 ∷ promise 1 2 ∷ [] }
    ∷ record apart { stages = a_stage 1 1 ∷ a_stage 2 1 ∷ record (a_stage 1 1) { path = codes "e" } ∷ [] }
    ∷ record apart { files = a_file 1 ∷ record (a_file 1) { path = codes "o" } ∷ [] } ∷ []

-- a host with one stored part, of so many bytes: a script of a row, of a promise, a stage, a file
abbrev pub with_part : ℕ → List Plain
with_part n =
    record fresh { rows = record (queued 1) { script = bytes n } ∷ [] }
    ∷ record fresh { promises = record (promise 1 1) { row = record (queued 1) { script = bytes n } } ∷ [] }
    ∷ record fresh { stages = record (a_stage 1 1) { bytes = bytes n } ∷ [] } ∷ record fresh { files = record (a_file 1) { bytes = bytes n } ∷ [] } ∷ []

-- a row that is doomed
abbrev pub doomed : Row (List ℕ) → Row (List ℕ)
doomed r = record r { doomed = true }

-- a host that has a handover of its request 1 in a phase, or of another one
abbrev pub with_hand : ℕ → Phase → Plain
with_hand seq phase = record fresh { hands = hand 1 1 (request seq 0) phase ∷ [] }
