-- What a formatted host has.
use Rattle.std.specs.Prelude.{ℕ, Bool, true, false, List, [], ◌∷◌, map, codes, Option, None, Some, unwrap_or}
use Rattle.nqs_state.specs.State.{State}
use Rattle.nqs_types.specs.declared.ids.HostId.{HostId}
use Rattle.nqs_types.specs.declared.ids.Dest.{Dest}
use Rattle.nqs_types.specs.declared.request.Limits.{Limits}
use Rattle.nqs_types.specs.declared.request.Peer.{Peer}
use Rattle.nqs_types.specs.declared.queue.Kind.{Kind}
use Rattle.nqs_types.specs.declared.queue.Kind.TheVariants.{Batch}
use Rattle.nqs_types.specs.declared.queue.Access.TheVariants.{All}
use Rattle.nqs_types.specs.declared.queue.QueueDef.{QueueDef}

-- neither processor time nor memory is limited
abbrev pub no_limits : Limits
no_limits = record { cpu = None; memory = None }

-- a created queue: disabled and stopped, with priority 31 and run limit 1 unless stated, for
-- everybody
abbrev pub new_queue : List ℕ → Kind → Option ℕ → Option ℕ → Bool → List Dest → QueueDef
new_queue name kind priority run_limit pipe_only dests = record {
  name = name;
  kind = kind;
  enabled = false;
  started = false;
  pipe_only = pipe_only;
  priority = unwrap_or priority 31;
  run_limit = unwrap_or run_limit 1;
  user_limit = None;
  limits = no_limits;
  access = All;
  dests = dests;
  devices = [];
}

-- a peer from which nothing came and to which nothing went
abbrev pub new_peer : Peer
new_peer = record { next = 1; floor = 0; closed = []; wait = 0; stage_next = 1; stage_got = 0 }

-- the queue that a formatted host has: enabled and stopped
abbrev pub first_queue : QueueDef
first_queue = record (new_queue (codes "batch") Batch None None false []) { enabled = true }

-- a host of a site as it is formatted
abbrev pub formatted : {E : Type 0} → HostId → List (List ℕ) → State E
formatted me site = record {
  me = me;
  site = site;
  queues = first_queue ∷ [];
  complexes = [];
  devices = [];
  rows = [];
  hands = [];
  promises = [];
  peers = map (λ _. new_peer) site;
  stages = [];
  files = [];
  managers = codes "root" ∷ [];
  operators = [];
  default_queue = Some (codes "batch");
  global_limit = 64;
  patience = 60;
  retry_wait = 300;
  seq = 0;
  arrivals = 0;
  file_next = 1;
}
