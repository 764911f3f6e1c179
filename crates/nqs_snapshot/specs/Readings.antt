-- Readings of the values of a snapshot, at a place of the bytes: the value and the place behind it,
-- or the first fault from the left.
use Rattle.std.specs.Prelude.{ℕ, Bool, ◌==◌, if◌then◌else◌, List, Option, Some, None}
use Rattle.nqs_base.specs.declared.extent.Extent.{Extent}
use Rattle.nqs_types.specs.declared.ids.RequestId.{RequestId}
use Rattle.nqs_types.specs.declared.ids.Dest.{Dest}
use Rattle.nqs_types.specs.declared.request.Limits.{Limits}
use Rattle.nqs_types.specs.declared.request.Refused.{Refused}
use Rattle.nqs_types.specs.declared.request.Hold.{Hold}
use Rattle.nqs_types.specs.declared.request.Hold.TheVariants.{No, User, System}
use Rattle.nqs_types.specs.declared.request.RowState.{RowState}
use Rattle.nqs_types.specs.declared.request.RowState.TheVariants.{Queued, Routing, Running}
use Rattle.nqs_types.specs.declared.request.Job.{Job}
use Rattle.nqs_types.specs.declared.request.Row.{Row}
use Rattle.nqs_types.specs.declared.request.Phase.{Phase}
use Rattle.nqs_types.specs.declared.request.Phase.TheVariants.{Offered, Committed}
use Rattle.nqs_types.specs.declared.request.Hand.{Hand}
use Rattle.nqs_types.specs.declared.request.Promise.{Promise}
use Rattle.nqs_types.specs.declared.request.Peer.{Peer}
use Rattle.nqs_types.specs.declared.request.Stage.{Stage}
use Rattle.nqs_types.specs.declared.request.FileOut.{FileOut}
use Rattle.nqs_types.specs.declared.queue.Kind.{Kind}
use Rattle.nqs_types.specs.declared.queue.Kind.TheVariants.{Batch, Device, Pipe}
use Rattle.nqs_types.specs.declared.queue.Access.{Access}
use Rattle.nqs_types.specs.declared.queue.Access.TheVariants.{All, Users}
use Rattle.nqs_types.specs.declared.queue.QueueDef.{QueueDef}
use Rattle.nqs_types.specs.declared.queue.ComplexDef.{ComplexDef}
use Rattle.nqs_types.specs.declared.queue.DeviceDef.{DeviceDef}
use Rattle.nqs_records.specs.Reading.{Reading, mapped, both, within, counted}
use Rattle.nqs_records.specs.Fields.{u8_at, u16_at, u64_at, bool_at, opt_at, name_at, path_at}
use Rattle.nqs_records.specs.Parts.{host_at, id_at, script_at, output_at, job_at}
use Rattle.nqs_records.specs.Values.{is_at_most}
use Rattle.nqs_snapshot.specs.Values.{floor_below, alone_above}
use Rattle.nqs_snapshot.specs.declared.read_queues.Settings.{Settings}
use Rattle.nqs_snapshot.specs.declared.read_requests.Course.{Course}

-- as many values as eight bytes count
abbrev pub many_at : {A : Type 0} → Reading A → Reading (List A)
many_at {A} item = counted u64_at item

-- a byte that numbers one of several
abbrev pub number_at : ℕ → Reading ℕ
number_at last = within (is_at_most last) u8_at

-- ---- what may be one of several

-- the kind of queue of this number
abbrev pub kind_of : ℕ → Kind
kind_of n = if n == 0 then Batch else (if n == 1 then Device else Pipe)

-- the hold of this number
abbrev pub hold_of : ℕ → Hold
hold_of n = if n == 0 then No else (if n == 1 then User else System)

-- where a request is on its way, by this number
abbrev pub row_state_of : ℕ → RowState
row_state_of n = if n == 0 then Queued else (if n == 1 then Routing else Running)

-- how far a handover is, by this number
abbrev pub phase_of : ℕ → Phase
phase_of n = if n == 0 then Offered else Committed

-- the kind of a queue: batch, device or pipe
unfoldable pub kind_at : Reading Kind
kind_at = mapped kind_of (number_at 2)

-- who holds a request back
unfoldable pub hold_at : Reading Hold
hold_at = mapped hold_of (number_at 2)

-- whether a request waits, is on its way or runs
unfoldable pub row_state_at : Reading RowState
row_state_at = mapped row_state_of (number_at 2)

-- whose the request of a handover is
unfoldable pub phase_at : Reading Phase
phase_at = mapped phase_of (number_at 1)

-- everybody where there is no list
abbrev pub access_of : Option (List (List ℕ)) → Access
access_of None = All
access_of (Some users) = Users users

-- who may use a queue
unfoldable pub access_at : Reading Access
access_at = mapped access_of (opt_at (many_at name_at))

-- ---- queues, complexes and devices

-- the limits of processor time and of memory, each where there is one
unfoldable pub limits_at : Reading Limits
limits_at = mapped (λ v. record { cpu = v.0; memory = v.1 }) (both (opt_at u64_at) λ _. opt_at u64_at)

-- a destination: its queue, and its host
unfoldable pub dest_at : Reading Dest
dest_at = mapped (λ v. record { queue = v.0; host = v.1 }) (both name_at λ _. host_at)

-- the values of a queue's settings, in order
abbrev pub SettingsFields : Type 0
SettingsFields = List ℕ × (Kind × (Bool × (Bool × (Bool × (ℕ × (ℕ × (Option ℕ × Limits)))))))

-- the settings that these values make
abbrev pub settings_of : SettingsFields → Settings
settings_of v = record {
  name = v.0;
  kind = v.1.0;
  enabled = v.1.1.0;
  started = v.1.1.1.0;
  pipe_only = v.1.1.1.1.0;
  priority = v.1.1.1.1.1.0;
  run_limit = v.1.1.1.1.1.1.0;
  user_limit = v.1.1.1.1.1.1.1.0;
  limits = v.1.1.1.1.1.1.1.1;
}

-- a queue but for its lists; its priority is at most 63
unfoldable pub settings_at : Reading Settings
settings_at = mapped settings_of (
    both name_at λ _. both kind_at λ _. both bool_at λ _. both bool_at λ _. both bool_at λ _. both (within (is_at_most 63) u8_at) λ _.
    both u16_at λ _. both (opt_at u16_at) λ _. limits_at
    )

-- the queue of these settings and lists
abbrev pub queue_of : Settings → Access → List Dest → List (List ℕ) → QueueDef
queue_of c access dests devices = record {
  name = c.name;
  kind = c.kind;
  enabled = c.enabled;
  started = c.started;
  pipe_only = c.pipe_only;
  priority = c.priority;
  run_limit = c.run_limit;
  user_limit = c.user_limit;
  limits = c.limits;
  access = access;
  dests = dests;
  devices = devices;
}

-- a queue: its settings, who may use it, its destinations and its devices
unfoldable pub queue_at : Reading QueueDef
queue_at = mapped (λ v. queue_of v.0 v.1.0 v.1.1.0 v.1.1.1) (
    both settings_at λ _. both access_at λ _. both (many_at dest_at) λ _. many_at name_at
    )

-- a complex: its name, its limit, and its queues
unfoldable pub complex_at : Reading ComplexDef
complex_at = mapped (λ v. record { name = v.0; limit = v.1.0; queues = v.1.1 }) (both name_at λ _. both u16_at λ _. many_at name_at)

-- a device: its name, its forms, and whether it is enabled
unfoldable pub device_at : Reading DeviceDef
device_at = mapped (λ v. record { name = v.0; forms = v.1.0; enabled = v.1.1 }) (both name_at λ _. both name_at λ _. bool_at)

-- ---- requests

-- a destination that refused a request, and the number of the refusal
unfoldable pub refused_at : Reading Refused
refused_at = mapped (λ v. record { dest = v.0; cause = v.1 }) (both dest_at λ _. u8_at)

-- the values of where a request stands, in order
abbrev pub CourseFields : Type 0
CourseFields = List ℕ × (RowState × (Hold × (ℕ × (Bool × (ℕ × (ℕ × (ℕ × Option (List ℕ))))))))

-- where a request with these values stands
abbrev pub course_of : CourseFields → Course
course_of v = record {
  queue = v.0;
  state = v.1.0;
  hold = v.1.1.0;
  arrival = v.1.1.1.0;
  doomed = v.1.1.1.1.0;
  starts = v.1.1.1.1.1.0;
  lost = v.1.1.1.1.1.1.0;
  hops = v.1.1.1.1.1.1.1.0;
  device = v.1.1.1.1.1.1.1.1;
}

-- where a request stands; pipe queues have moved it at most 32 times
unfoldable pub course_at : Reading Course
course_at = mapped course_of (
    both name_at λ _. both row_state_at λ _. both hold_at λ _. both u64_at λ _. both bool_at λ _. both u16_at λ _. both u16_at λ _.
    both (within (is_at_most 32) u8_at) λ _. opt_at name_at
    )

-- the request of these parts
abbrev pub row_of : RequestId → Job → Course → List Refused → Extent → Row Extent
row_of id job c refused script = record {
  id = id;
  job = job;
  queue = c.queue;
  state = c.state;
  hold = c.hold;
  arrival = c.arrival;
  doomed = c.doomed;
  starts = c.starts;
  lost = c.lost;
  hops = c.hops;
  device = c.device;
  refused = refused;
  script = script;
}

-- a request: its job, where it stands, the destinations that refused it, and where its script is
unfoldable pub row_at : Reading (Row Extent)
row_at = mapped (λ v. row_of v.0 v.1.0 v.1.1.0 v.1.1.1.0 v.1.1.1.1) (
    both id_at λ _. both job_at λ _. both course_at λ _. both (many_at refused_at) λ _. script_at
    )

-- ---- dealings with other hosts, and files

-- a handover to another host
unfoldable pub hand_at : Reading Hand
hand_at =
    mapped (λ v. record { peer = v.0; number = v.1.0; id = v.1.1.0; queue = v.1.1.1.0; since = v.1.1.1.1.0; phase = v.1.1.1.1.1 })
    (both host_at λ _. both u64_at λ _. both id_at λ _. both name_at λ _. both u64_at λ _. phase_at)

-- a request that was promised to be taken, with the number of its handover
unfoldable pub promise_at : Reading (Promise Extent)
promise_at = mapped (λ v. record { peer = v.0; number = v.1.0; row = v.1.1 }) (both host_at λ _. both u64_at λ _. row_at)

-- what is known of another host: how far handovers and stages are, and until when to wait
unfoldable pub peer_at : Reading Peer
peer_at =
    mapped (λ v. record { next = v.0; floor = v.1.0; closed = v.1.1.0; wait = v.1.1.1.0; stage_next = v.1.1.1.1.0; stage_got = v.1.1.1.1.1 })
    (both u64_at λ _. both u64_at λ _. both (many_at u64_at) λ _. both u64_at λ _. both u64_at λ _. u64_at)

-- the numbers of an old peer, in order
abbrev pub OldPeerFields : Type 0
OldPeerFields = ℕ × (ℕ × (ℕ × (ℕ × ℕ)))

-- what an old peer becomes: of its closed number k the floor k - 1 and the entry k, of 0 the floor
-- 0 and none
abbrev pub renewed : OldPeerFields → Peer
renewed v = record {
  next = v.0;
  floor = floor_below v.1.0;
  closed = alone_above v.1.0;
  wait = v.1.1.0;
  stage_next = v.1.1.1.0;
  stage_got = v.1.1.1.1;
}

-- what was known of another host by the spelling of version 1
unfoldable pub old_peer_at : Reading Peer
old_peer_at = mapped renewed (both u64_at λ _. both u64_at λ _. both u64_at λ _. both u64_at λ _. u64_at)

-- an output on its way to another host, and where its bytes are
unfoldable pub stage_at : Reading (Stage Extent)
stage_at =
    mapped (λ v. record { peer = v.0; number = v.1.0; path = v.1.1.0; bytes = v.1.1.1 })
    (both host_at λ _. both u64_at λ _. both path_at λ _. output_at)

-- an output that is to be a file of this host, and where its bytes are
unfoldable pub file_at : Reading (FileOut Extent)
file_at = mapped (λ v. record { number = v.0; path = v.1.0; bytes = v.1.1 }) (both u64_at λ _. both path_at λ _. output_at)
