-- A state with each stored part replaced: a plain state, where f gives the bytes of an extent.
use Rattle.std.specs.Prelude.{map}
use Rattle.nqs_state.specs.State.{State}
use Rattle.nqs_types.specs.declared.request.Row.{Row}
use Rattle.nqs_types.specs.declared.request.Promise.{Promise}
use Rattle.nqs_types.specs.declared.request.Stage.{Stage}
use Rattle.nqs_types.specs.declared.request.FileOut.{FileOut}

module _ {E F : Type 0} (f : E → F) where
  -- a request with its script mapped
  abbrev pub map_row : Row E → Row F
  map_row r = record {
    id = r.id;
    job = r.job;
    queue = r.queue;
    state = r.state;
    hold = r.hold;
    arrival = r.arrival;
    doomed = r.doomed;
    starts = r.starts;
    lost = r.lost;
    hops = r.hops;
    device = r.device;
    refused = r.refused;
    script = f r.script;
  }

  -- a promise with its script mapped
  abbrev pub map_promise : Promise E → Promise F
  map_promise p = record { peer = p.peer; number = p.number; row = map_row p.row }

  -- a stage with its bytes mapped
  abbrev pub map_stage : Stage E → Stage F
  map_stage s = record { peer = s.peer; number = s.number; path = s.path; bytes = f s.bytes }

  -- a file with its bytes mapped
  abbrev pub map_file : FileOut E → FileOut F
  map_file o = record { number = o.number; path = o.path; bytes = f o.bytes }

  -- a state with all scripts and outputs mapped
  abbrev pub map_state : State E → State F
  map_state s = record {
    me = s.me;
    site = s.site;
    queues = s.queues;
    complexes = s.complexes;
    devices = s.devices;
    rows = map map_row s.rows;
    hands = s.hands;
    promises = map map_promise s.promises;
    peers = s.peers;
    stages = map map_stage s.stages;
    files = map map_file s.files;
    managers = s.managers;
    operators = s.operators;
    default_queue = s.default_queue;
    global_limit = s.global_limit;
    patience = s.patience;
    retry_wait = s.retry_wait;
    seq = s.seq;
    arrivals = s.arrivals;
    file_next = s.file_next;
  }
