-- The host that the tests of steps ask: it, its queue and its users are named `plot`.
use Rattle.std.specs.Prelude.{ℕ, true, false, List, [], ◌∷◌, codes, None, Some}
use Rattle.nqs_state.specs.State.{State}
use Rattle.nqs_base.specs.declared.extent.Extent.{Extent}
use Rattle.nqs_types.specs.declared.queue.QueueDef.{QueueDef}
use Rattle.nqs_types.specs.declared.request.Hold.TheVariants.{No}
use Rattle.nqs_types.specs.declared.request.Job.{Job}
use Rattle.nqs_types.specs.declared.request.Row.{Row}
use Rattle.nqs_types.specs.declared.request.RowState.{RowState}
use Rattle.nqs_rules.specs.Format.{no_limits, first_queue, formatted}

-- a batch queue that is enabled and started
abbrev pub plot_queue : QueueDef
plot_queue = record first_queue { name = codes "plot"; started = true }

-- a rerunnable job with these paths of its outputs
abbrev pub plot_job : List ℕ → List ℕ → Job
plot_job out err = record {
  name = codes "plot";
  owner = codes "plot";
  priority = 31;
  earliest = 0;
  rerun = true;
  limits = no_limits;
  forms = None;
  out =
      out;
  err = err;
  join = false;
}

-- a request that was started twice
abbrev pub plot_row : Job → RowState → ℕ → Row Extent
plot_row job state lost = record {
  id = record { seq = 12; host = record { 0 = 0 } };
  job = job;
  queue = codes "plot";
  state = state;
  hold = No;
  arrival =
      1;
  doomed = false;
  starts = 2;
  lost = lost;
  hops = 0;
  device = None;
  refused = [];
  script = record { place = 7; length = 4 };
}

-- a host that has given so many numbers, with these requests
abbrev pub plot_host : ℕ → List (Row Extent) → State Extent
plot_host seq rows = record (formatted (record { 0 = 0 }) (codes "plot" ∷ []))
    { queues = plot_queue ∷ []; rows = rows; managers = []; default_queue = Some (codes "plot"); seq = seq; arrivals = seq }

-- the same host before it has a site, a queue or a request
abbrev pub blank_host : ℕ → State Extent
blank_host seq = record (plot_host seq []) { site = []; queues = []; peers = [] }
