-- The texts of states, and the lines of lists.
use Rattle.std.specs.Prelude.{ℕ, Bool, true, false, ◌&&◌, if◌then◌else◌, List, [], ◌∷◌, ◌++◌, map, filter, find, flat_map, length, codes, Option, None, Some}
use Rattle.std.specs.Fmt.{decimal}
use Rattle.nqs_base.specs.Same.{name_eq}
use Rattle.nqs_state.specs.State.{State}
use Rattle.nqs_rules.specs.Tests.{is_unheld}
use Rattle.nqs_rules.specs.Find.{has_name}
use Rattle.nqs_rules.specs.Conf.{row_in}
use Rattle.nqs_rules.specs.Devices.{runs_on}
use Rattle.nqs_rules.specs.Order.{comes_before}
use Rattle.nqs_rules.specs.Handover.{name_at}
use Rattle.nqs_types.specs.declared.ids.RequestId.{RequestId}
use Rattle.nqs_types.specs.declared.ids.Named.{Named}
use Rattle.nqs_types.specs.declared.request.Row.{Row}
use Rattle.nqs_types.specs.declared.request.RowState.{RowState}
use Rattle.nqs_types.specs.declared.request.RowState.TheVariants.{Queued, Routing, Running}
use Rattle.nqs_types.specs.declared.queue.Kind.{Kind}
use Rattle.nqs_types.specs.declared.queue.Kind.TheVariants.{Batch, Device, Pipe}
use Rattle.nqs_types.specs.declared.queue.QueueDef.{QueueDef}
use Rattle.nqs_types.specs.declared.queue.ComplexDef.{ComplexDef}
use Rattle.nqs_types.specs.declared.queue.DeviceDef.{DeviceDef}
use Rattle.nqs_types.specs.declared.table_row.NetState.{NetState}
use Rattle.nqs_types.specs.declared.table_row.NetState.TheVariants as net

-- bytes that are shown
abbrev pub Text : Type 0
Text = List ℕ

-- a request, as SEQ.HOST
abbrev pub id_text : List Text → RequestId → Text
id_text site id = decimal id.seq ++ codes "." ++ name_at id.host.0 site

-- a request as people write it: its number, a point and its host
abbrev pub named_text : Named → Text
named_text id = decimal id.seq ++ codes "." ++ id.host

-- words parted by single spaces
abbrev pub words : List Text → Text
words [] = []
words (w ∷ []) = w
words (w ∷ v ∷ ws) = w ++ codes " " ++ words (v ∷ ws)

-- a state of the table as it is shown
abbrev pub net_text : NetState → Text
net_text net.Queued = codes "QUEUED"
net_text net.Held = codes "HELD"
net_text net.Routing = codes "ROUTING"
net_text net.Arriving = codes "ARRIVING"
net_text net.Running = codes "RUNNING"

-- the state of a row as people see it
abbrev pub seen_state : {E : Type 0} → Row E → NetState
seen_state r = state_of r.state (is_unheld r.hold)
  where
    state_of : RowState → Bool → NetState
    state_of Queued true = net.Queued
    state_of Queued false = net.Held
    state_of Routing free = net.Routing
    state_of Running free = net.Running

-- the kind of a queue as it is shown
abbrev pub kind_text : Kind → Text
kind_text Batch = codes "batch"
kind_text Device = codes "device"
kind_text Pipe = codes "pipe"

-- one text or the other
abbrev pub either : Bool → Text → Text → Text
either b yes_text no_text = if b then yes_text else no_text

module _ {E : Type 0} where
  -- a list in an order, each new item before the first that it comes before
  abbrev pub put_in : (Row E → Row E → Bool) → Row E → List (Row E) → List (Row E)
  put_in first r [] = r ∷ []
  put_in first r (q ∷ qs) = if first r q then r ∷ q ∷ qs else q ∷ put_in first r qs

  -- requests in an order
  abbrev pub sorted : (Row E → Row E → Bool) → List (Row E) → List (Row E)
  sorted first [] = []
  sorted first (r ∷ rs) = put_in first r (sorted first rs)

  -- whether a request is of the user asked for
  abbrev pub is_owned_by : Option Text → Row E → Bool
  is_owned_by None r = true
  is_owned_by (Some user) r = name_eq user r.job.owner

  -- the rows of a queue, and of a user where one is given, in the order in which they start
  abbrev pub listed_rows : Option Text → State E → QueueDef → List (Row E)
  listed_rows user s d = sorted comes_before (filter (λ r. row_in d.name r && is_owned_by user r) s.rows)

-- whether a queue is among those asked for; none asked for are all
abbrev pub is_asked : List Text → QueueDef → Bool
is_asked [] d = true
is_asked (q ∷ qs) d = has_name (q ∷ qs) d.name

module _ {E : Type 0} where
  -- the requests asked for, by queue and in its order
  abbrev pub stat_rows : Option Text → List Text → State E → List (Row E)
  stat_rows user queues s = flat_map (listed_rows user s) (filter (is_asked queues) s.queues)

  -- the line of a request
  abbrev pub row_line : State E → Row E → Text
  row_line s r = words (id_text s.site r.id ∷ r.job.name ∷ r.job.owner ∷ r.queue ∷ net_text (seen_state r) ∷ decimal r.job.priority ∷ [])

  -- the lines of qstat
  abbrev pub stat_lines : Option Text → List Text → State E → List Text
  stat_lines user queues s = map (row_line s) (stat_rows user queues s) ++ (decimal (length (stat_rows user queues s)) ++ codes " requests.") ∷ []

-- the line of a queue
abbrev pub queue_line : QueueDef → Text
queue_line d = words (
    d.name ∷ kind_text d.kind ∷ either d.enabled (codes "enabled") (codes "disabled") ∷ either d.started (codes "started") (codes "stopped")
    ∷ decimal d.priority ∷ decimal d.run_limit ∷ [])

-- the line of a complex: its name, its limit and its queues
abbrev pub complex_line : ComplexDef → Text
complex_line c = words (c.name ∷ decimal c.limit ∷ c.queues)

-- the line of a manager
abbrev pub manager_line : Text → Text
manager_line user = user ++ codes " manager"

-- the line of an operator
abbrev pub operator_line : Text → Text
operator_line user = user ++ codes " operator"

-- the default queue, or `none`
abbrev pub default_text : Option Text → Text
default_text None = codes "none"
default_text (Some q) = q

module _ {E : Type 0} where
  -- who has a device
  abbrev pub user_text : List Text → Option (Row E) → Text
  user_text site None = codes "free"
  user_text site (Some r) = id_text site r.id

  -- a device, and the request that runs on it
  abbrev pub device_line : State E → DeviceDef → Text
  device_line s d = words (d.name ∷ d.forms ∷ either d.enabled (codes "enabled") (codes "disabled") ∷ user_text s.site (find (runs_on d.name) s.rows) ∷ [])

  -- the lines of a host's parameters
  abbrev pub parameter_lines : State E → List Text
  parameter_lines s =
      (codes "global_limit " ++ decimal s.global_limit) ∷ (codes "patience " ++ decimal s.patience) ∷ (codes "retry_wait " ++ decimal s.retry_wait)
      ∷ (codes "default_queue " ++ default_text s.default_queue) ∷ []
