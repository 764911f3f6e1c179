-- States before and after each kind of change.
use Rattle.std.specs.Prelude.{ℕ, false, List, [], ◌∷◌, codes, None, Some}
use Rattle.nqs_state.specs.State.{Plain}
use Rattle.nqs_rules.specs.Format.{new_peer}
use Rattle.nqs_rules.specs.Applied.{applied}
use Rattle.nqs_worked.specs.ScheduleWords.{host, request}
use Rattle.nqs_worked.specs.Definitions.{far_carried, link, queued, in_link, busy}
use Rattle.nqs_worked_tables.specs.Bounds.{pathed, part}
use Rattle.nqs_worked_tables.specs.Refusals.{full_house, printer, in_queue}
use Rattle.nqs_worked_tables.specs.OrderBounds.{hand, on_the_way, started}
use Rattle.nqs_types.specs.declared.ids.RequestId.{RequestId}
use Rattle.nqs_types.specs.declared.ids.Dest.{Dest}
use Rattle.nqs_types.specs.declared.request.Job.{Job}
use Rattle.nqs_types.specs.declared.request.Row.{Row}
use Rattle.nqs_types.specs.declared.request.Peer.{Peer}
use Rattle.nqs_types.specs.declared.request.RowState.TheVariants.{Queued, Routing, Running}
use Rattle.nqs_types.specs.declared.request.Hold.TheVariants.{No, User, System}
use Rattle.nqs_types.specs.declared.request.Phase.TheVariants.{Offered, Committed}
use Rattle.nqs_types.specs.declared.queue.Kind.{Kind}
use Rattle.nqs_types.specs.declared.queue.Access.TheVariants.{All}
use Rattle.nqs_types.specs.declared.queue.QueueDef.{QueueDef}
use Rattle.nqs_types.specs.declared.change.Change.{Change}
use Rattle.nqs_types.specs.declared.change.Change.TheVariants.{Submitted, Ended, OldPromised, Promised, StageGot, Boot, Edited}
use Rattle.nqs_types.specs.declared.change.OutPart.{OutPart}
use Rattle.nqs_base.specs.declared.extent.Extent.{Extent}
use Rattle.nqs_types.specs.declared.edit.Edit.{Edit}

-- what an edit makes of a host that has some of everything
abbrev pub edited : Edit → Plain
edited e = applied (Edited e) full_house

-- the requests of that host, one by one
abbrev pub idle_row : Row (List ℕ)
idle_row = queued 1

-- the one that prints on the laser
abbrev pub printing_row : Row (List ℕ)
printing_row = record (in_queue (codes "lp") (queued 2)) { state = Running; starts = 1; device = Some (codes "laser") }

-- the one on its way
abbrev pub routing_row : Row (List ℕ)
routing_row = record (in_queue (codes "link") (queued 3)) { state = Routing }

-- the one that the user holds
abbrev pub user_row : Row (List ℕ)
user_row = record (queued 4) { hold = User }

-- the one that the system holds
abbrev pub system_row : Row (List ℕ)
system_row = record (queued 5) { hold = System }

-- the same host with these queues
abbrev pub queues_are : List QueueDef → Plain
queues_are ds = record full_house { queues = ds }

-- the same host with this queue in place of batch
abbrev pub batch_is : QueueDef → Plain
batch_is d = queues_are (d ∷ printer ∷ link ∷ [])

-- the same host with these rows
abbrev pub rows_are : List (Row (List ℕ)) → Plain
rows_are rs = record full_house { rows = rs }

-- a queue, field by field, for everybody and without limits
abbrev pub made_queue : List ℕ → Kind → ℕ → ℕ → List Dest → QueueDef
made_queue name kind priority run_limit dests = record {
  name = name;
  kind = kind;
  enabled = false;
  started = false;
  pipe_only = false;
  priority = priority;
  run_limit = run_limit;
  user_limit = None;
  limits = record { cpu = None; memory = None };
  access = All;
  dests = dests;
  devices = [];
}

-- a request as it comes in, field by field
abbrev pub incoming : RequestId → Job → List ℕ → ℕ → ℕ → ℕ → List ℕ → Row (List ℕ)
incoming id job queue arrival starts hops script = record {
  id = id;
  job = job;
  queue = queue;
  state = Queued;
  hold = No;
  arrival = arrival;
  doomed = false;
  starts = starts;
  lost = starts;
  hops = hops;
  device = None;
  refused = [];
  script = script;
}

-- a host with two requests of its own and two of another one, all running
abbrev pub at_work : Plain
at_work = record busy {
  rows = started 1 0 ∷ record (started 1 0) { id = request 2 2 } ∷ record (started 1 0) { id = request 2 0 } ∷ record (started 1 0) { id = request 1 2 } ∷ [];
  file_next = 5;
  peers = new_peer ∷ record new_peer { stage_next = 9 } ∷ record new_peer { stage_next = 3 } ∷ [];
}

-- the same without one of them
abbrev pub rests : List (Row (List ℕ)) → Plain
rests rows = record at_work { rows = rows }

-- a request that is offered and was given away before, one that is offered too, and one that waits
abbrev pub in_doubt : Plain
in_doubt = record busy {
  rows = on_the_way 2 ∷ record (on_the_way 3) { id = request 2 0 } ∷ queued 3 ∷ [];
  hands = hand 2 4 (request 1 0) Committed ∷ hand 1 1 (request 1 0) Offered ∷ hand 2 3 (request 2 0) Offered ∷ [];
}

-- what is known of the three hosts
abbrev pub peers_are : Peer → Peer → Plain → Plain
peers_are second third s = record s { peers = new_peer ∷ second ∷ third ∷ [] }

-- a change of each kind that stores bytes, and one of another kind
abbrev pub stored_changes : List (Change (List ℕ))
stored_changes =
    Submitted (codes "q") pathed (codes "s") ∷ Ended (request 1 0) (part (codes "o") ∷ part (codes "e") ∷ [])
    ∷ OldPromised (host 1) 1 (codes "q") far_carried (codes "s") ∷ Promised (host 1) 1 1 (codes "q") far_carried (codes "s")
    ∷ StageGot (host 1) 1 (codes "o") (codes "b") ∷ Boot ∷ []

-- an output at a path that no extent is known of yet
abbrev pub part_of_extent : List ℕ → OutPart Extent
part_of_extent path = record { path = path; bytes = record { place = 0; length = 0 } }

-- the row of the busy host as it goes on
abbrev pub busy_row : Row (List ℕ)
busy_row = record (in_link 1) { state = Routing; script = codes "date"; hops = 2 }
