-- The edits of queues and of the host's parameters.
use Rattle.std.specs.Prelude.{ℕ, ◌+◌, Bool, true, false, not, ◌&&◌, nat_lt, nat_le, if◌then◌else◌, List, [], ◌∷◌, ◌++◌, filter, map, length, Option, None, Some}
use Rattle.std.specs.Prelude.{is_none}
use Rattle.std.specs.List.{list_any}
use Rattle.nqs_base.specs.Same.{name_eq}
use Rattle.nqs_state.specs.State.{State}
use Rattle.nqs_base_tables.specs.Table.{without_first}
use Rattle.nqs_state.specs.Keys.{is_queue}
use Rattle.nqs_rules.specs.Tests.{passes, is_queued, is_pipe, same_dest}
use Rattle.nqs_rules.specs.Format.{new_queue}
use Rattle.nqs_rules.specs.Causes.{Cause, cause}
use Rattle.nqs_rules.specs.Find.{has_queue, find_queue, host_named, meant_dest}
use Rattle.nqs_rules.specs.Edits.{change_queue}
use Rattle.nqs_rules.specs.Access.{without_name}
use Rattle.nqs_types.specs.declared.ids.Dest.{Dest}
use Rattle.nqs_types.specs.declared.ids.NamedDest.{NamedDest}
use Rattle.nqs_types.specs.declared.request.Row.{Row}
use Rattle.nqs_types.specs.declared.request.Promise.{Promise}
use Rattle.nqs_types.specs.declared.queue.Kind.TheVariants.{Batch, Device, Pipe}
use Rattle.nqs_types.specs.declared.queue.QueueDef.{QueueDef}
use Rattle.nqs_types.specs.declared.queue.ComplexDef.{ComplexDef}
use Rattle.nqs_types.specs.declared.refusal.Refusal.TheVariants.{NoQueue, NoHost, QueueExists, QueueInUse, WrongKind, DestExists, NoDest, TooMany}
use Rattle.nqs_types.specs.declared.edit.ConfEdit.{ConfEdit}
use Rattle.nqs_types.specs.declared.edit.ConfEdit.TheVariants.{CreateBatchQueue, CreateDeviceQueue, CreatePipeQueue, DeleteQueue, EnableQueue, DisableQueue}
use Rattle.nqs_types.specs.declared.edit.ConfEdit.TheVariants.{StartQueue, StopQueue, PurgeQueue, SetPriority, SetRunLimit, AddDestination, RemoveDestination}
use Rattle.nqs_types.specs.declared.edit.ConfEdit.TheVariants.{FirstDestination}
use Rattle.nqs_types.specs.declared.edit.ConfEdit.TheVariants.{SetDefaultQueue, SetNoDefaultQueue, SetPatience, SetRetryWait}

-- whether a queue carries requests to other queues
abbrev pub is_pipe_queue : QueueDef → Bool
is_pipe_queue d = is_pipe d.kind

-- whether a queue has this destination
abbrev pub lists_dest : Option Dest → QueueDef → Bool
lists_dest None d = false
lists_dest (Some dest) d = list_any (same_dest dest) d.dests

-- whether a queue has no room for another destination: 16 are the most
abbrev pub has_full_dests : QueueDef → Bool
has_full_dests d = nat_le 16 (length d.dests)

module _ {E : Type 0} where
  -- whether a request is of this queue
  abbrev pub row_in : List ℕ → Row E → Bool
  row_in q r = name_eq q r.queue

  -- whether a promise is for this queue
  abbrev pub promise_in : List ℕ → Promise E → Bool
  promise_in q p = name_eq q p.row.queue

  -- how many rows and promises a queue holds
  abbrev pub held_in : List ℕ → State E → ℕ
  held_in q s = length (filter (row_in q) s.rows) + length (filter (promise_in q) s.promises)

  -- that the site has no such host
  abbrev pub no_host_cause : List ℕ → State E → Cause
  no_host_cause host s = cause (is_none (host_named host s)) (NoHost host)

  -- what keeps a queue from being made: there is one, or there are 256
  abbrev pub create_causes : List ℕ → State E → List Cause
  create_causes q s = cause (has_queue q s) (QueueExists q) ∷ cause (nat_le 256 (length s.queues)) TooMany ∷ []

  -- the same of a pipe queue, whose destination must be on a host of the site
  abbrev pub create_pipe_causes : Option NamedDest → List ℕ → State E → List Cause
  create_pipe_causes None q s = create_causes q s
  create_pipe_causes (Some d) q s = no_host_cause d.host s ∷ create_causes q s

  -- that there is no such queue
  abbrev pub queue_causes : List ℕ → State E → List Cause
  queue_causes q s = cause (not (has_queue q s)) (NoQueue q) ∷ []

  -- that there is no such queue, that it isn't a pipe queue, that it hasn't this destination
  abbrev pub listed_dest_causes : NamedDest → List ℕ → State E → List Cause
  listed_dest_causes d q s =
      cause (not (has_queue q s)) (NoQueue q) ∷ cause (not (passes is_pipe_queue (find_queue q s))) WrongKind
      ∷ cause (not (passes (lists_dest (meant_dest d s)) (find_queue q s))) NoDest ∷ []

  -- the causes for which an edit of queues and parameters is refused, in order
  abbrev pub conf_causes : ConfEdit → State E → List Cause
  conf_causes (CreateBatchQueue q _ _ _) s = create_causes q s
  conf_causes (CreateDeviceQueue q _ _ _) s = create_causes q s
  conf_causes (CreatePipeQueue q _ _ _ d) s = create_pipe_causes d q s
  conf_causes (DeleteQueue q) s = cause (not (has_queue q s)) (NoQueue q) ∷ cause (nat_lt 0 (held_in q s)) (QueueInUse q (held_in q s)) ∷ []
  conf_causes (EnableQueue q) s = queue_causes q s
  conf_causes (DisableQueue q) s = queue_causes q s
  conf_causes (StartQueue q) s = queue_causes q s
  conf_causes (StopQueue q) s = queue_causes q s
  conf_causes (PurgeQueue q) s = queue_causes q s
  conf_causes (SetPriority _ q) s = queue_causes q s
  conf_causes (SetRunLimit _ q) s = queue_causes q s
  conf_causes (AddDestination d q) s =
      cause (not (has_queue q s)) (NoQueue q) ∷ no_host_cause d.host s ∷ cause (not (passes is_pipe_queue (find_queue q s))) WrongKind
      ∷ cause (passes (lists_dest (meant_dest d s)) (find_queue q s)) DestExists ∷ cause (passes has_full_dests (find_queue q s)) TooMany ∷ []
  conf_causes (RemoveDestination d q) s = listed_dest_causes d q s
  conf_causes (FirstDestination d q) s = listed_dest_causes d q s
  conf_causes (SetDefaultQueue q) s = queue_causes q s
  conf_causes SetNoDefaultQueue s = []
  conf_causes (SetPatience _) s = []
  conf_causes (SetRetryWait _) s = []

-- the destinations of a new queue: the one that was named, if any
abbrev pub dest_list : Option Dest → List Dest
dest_list None = []
dest_list (Some d) = d ∷ []

-- a queue with one destination more
abbrev pub with_dest : Option Dest → QueueDef → QueueDef
with_dest None d = d
with_dest (Some dest) d = record d { dests = d.dests ++ dest ∷ [] }

-- a queue without a destination
abbrev pub without_dest : Option Dest → QueueDef → QueueDef
without_dest None d = d
without_dest (Some dest) d = record d { dests = filter (λ other. not (same_dest dest other)) d.dests }

-- a queue whose destination comes first, and the others behind it as they stood
abbrev pub with_dest_first : Option Dest → QueueDef → QueueDef
with_dest_first None d = d
with_dest_first (Some dest) d = record d { dests = dest ∷ without_first (same_dest dest) d.dests }

-- what an edit makes of its queue, where it looks at the queue alone
abbrev pub conf_edited : ConfEdit → QueueDef → QueueDef
conf_edited (EnableQueue _) d = record d { enabled = true }
conf_edited (DisableQueue _) d = record d { enabled = false }
conf_edited (StartQueue _) d = record d { started = true }
conf_edited (StopQueue _) d = record d { started = false }
conf_edited (SetPriority n _) d = record d { priority = n }
conf_edited (SetRunLimit n _) d = record d { run_limit = n }
conf_edited _ d = d

-- a complex without a queue
abbrev pub without_member : List ℕ → ComplexDef → ComplexDef
without_member q c = record c { queues = without_name q c.queues }

-- the default queue, unless it was this one
abbrev pub default_without : List ℕ → Option (List ℕ) → Option (List ℕ)
default_without name None = None
default_without name (Some q) = if name_eq name q then None else Some q

module _ {E : Type 0} where
  -- whether a request is queued in this queue, held or not
  abbrev pub is_queued_in : List ℕ → Row E → Bool
  is_queued_in q r = is_queued r.state && name_eq q r.queue

  -- with one queue more
  abbrev pub add_queue : QueueDef → State E → State E
  add_queue d s = record s { queues = s.queues ++ d ∷ [] }

  -- the destinations of a new pipe queue
  abbrev pub created_dests : Option NamedDest → State E → List Dest
  created_dests None s = []
  created_dests (Some d) s = dest_list (meant_dest d s)

  -- what an edit of queues and parameters makes of a state
  abbrev pub conf_applied : ConfEdit → State E → State E
  conf_applied (CreateBatchQueue q priority run_limit pipe_only) s = add_queue (new_queue q Batch priority run_limit pipe_only []) s
  conf_applied (CreateDeviceQueue q priority run_limit pipe_only) s = add_queue (new_queue q Device priority run_limit pipe_only []) s
  conf_applied (CreatePipeQueue q priority run_limit pipe_only d) s = add_queue (new_queue q Pipe priority run_limit pipe_only (created_dests d s)) s
  conf_applied (DeleteQueue q) s = record s {
    queues = without_first (is_queue q) s.queues;
    complexes = map (without_member q) s.complexes;
    default_queue = default_without q s.default_queue;
  }
  conf_applied (EnableQueue q) s = change_queue q (conf_edited (EnableQueue q)) s
  conf_applied (DisableQueue q) s = change_queue q (conf_edited (DisableQueue q)) s
  conf_applied (StartQueue q) s = change_queue q (conf_edited (StartQueue q)) s
  conf_applied (StopQueue q) s = change_queue q (conf_edited (StopQueue q)) s
  conf_applied (PurgeQueue q) s = record s { rows = filter (λ r. not (is_queued_in q r)) s.rows }
  conf_applied (SetPriority n q) s = change_queue q (conf_edited (SetPriority n q)) s
  conf_applied (SetRunLimit n q) s = change_queue q (conf_edited (SetRunLimit n q)) s
  conf_applied (AddDestination d q) s = change_queue q (with_dest (meant_dest d s)) s
  conf_applied (RemoveDestination d q) s = change_queue q (without_dest (meant_dest d s)) s
  conf_applied (FirstDestination d q) s = change_queue q (with_dest_first (meant_dest d s)) s
  conf_applied (SetDefaultQueue q) s = record s { default_queue = Some q }
  conf_applied SetNoDefaultQueue s = record s { default_queue = None }
  conf_applied (SetPatience n) s = record s { patience = n }
  conf_applied (SetRetryWait n) s = record s { retry_wait = n }

-- the numbers of an edit are within their limits

-- whether a number that was given is within a limit
abbrev pub at_most : ℕ → Option ℕ → Bool
at_most limit None = true
at_most limit (Some n) = nat_le n limit

-- 1 to 86,400 seconds
abbrev pub is_wait : ℕ → Bool
is_wait n = nat_le 1 n && nat_le n 86400

-- the numbers of an edit of queues are within their limits
abbrev pub is_conf_within : ConfEdit → Bool
is_conf_within (CreateBatchQueue _ priority run_limit _) = at_most 63 priority && at_most 10000 run_limit
is_conf_within (CreateDeviceQueue _ priority run_limit _) = at_most 63 priority && at_most 10000 run_limit
is_conf_within (CreatePipeQueue _ priority run_limit _ _) = at_most 63 priority && at_most 10000 run_limit
is_conf_within (SetPriority n _) = nat_le n 63
is_conf_within (SetRunLimit n _) = nat_le n 10000
is_conf_within (SetPatience n) = is_wait n
is_conf_within (SetRetryWait n) = is_wait n
is_conf_within _ = true
