-- The one spelling of a whole state: its fields one behind the other, in the field forms of journal
-- records.
use Rattle.std.specs.Prelude.{ℕ, List, [], ◌∷◌, ◌++◌, length, flat_map}
use Rattle.nqs_codec.specs.Fields.{u8_field, u16_field, u32_field, u64_field, short_field, bool_field}
use Rattle.nqs_base.specs.declared.extent.Extent.{Extent}
use Rattle.nqs_types.specs.declared.ids.Dest.{Dest}
use Rattle.nqs_types.specs.declared.request.Limits.{Limits}
use Rattle.nqs_types.specs.declared.request.Refused.{Refused}
use Rattle.nqs_types.specs.declared.request.Hold.{Hold}
use Rattle.nqs_types.specs.declared.request.Hold.TheVariants.{No, User, System}
use Rattle.nqs_types.specs.declared.request.RowState.{RowState}
use Rattle.nqs_types.specs.declared.request.RowState.TheVariants.{Queued, Routing, Running}
use Rattle.nqs_types.specs.declared.request.Row.{Row}
use Rattle.nqs_types.specs.declared.request.Phase.{Phase}
use Rattle.nqs_types.specs.declared.request.Phase.TheVariants.{Offered, Committed}
use Rattle.nqs_types.specs.declared.request.Hand.{Hand}
use Rattle.nqs_types.specs.declared.request.Promise.{Promise}
use Rattle.nqs_types.specs.declared.request.Peer.{Peer}
use Rattle.nqs_types.specs.declared.request.Stage.{Stage}
use Rattle.nqs_types.specs.declared.request.FileOut.{FileOut}
use Rattle.nqs_types.specs.declared.queue.Kind.{Kind}
use Rattle.nqs_types.specs.declared.queue.Kind.TheVariants.{Batch, Device, Pipe}
use Rattle.nqs_types.specs.declared.queue.Access.{Access}
use Rattle.nqs_types.specs.declared.queue.Access.TheVariants.{All, Users}
use Rattle.nqs_types.specs.declared.queue.QueueDef.{QueueDef}
use Rattle.nqs_types.specs.declared.queue.ComplexDef.{ComplexDef}
use Rattle.nqs_types.specs.declared.queue.DeviceDef.{DeviceDef}
use Rattle.nqs_state.specs.State.{State}
use Rattle.nqs_records.specs.Spelling.{fields, opt_field, id_field, extent_field, job_field}

-- eight bytes that count the values, and their fields
unfoldable pub many_field : {A : Type 0} → (A → List ℕ) → List A → List ℕ
many_field {A} field xs = u64_field (length xs) ++ flat_map field xs

-- ---- what may be one of several: its number, from 0

-- a kind of queue by its number
abbrev pub kind_number : Kind → ℕ
kind_number Batch = 0
kind_number Device = 1
kind_number Pipe = 2

-- a hold by its number
abbrev pub hold_number : Hold → ℕ
hold_number No = 0
hold_number User = 1
hold_number System = 2

-- where a request is on its way, by its number
abbrev pub state_number : RowState → ℕ
state_number Queued = 0
state_number Routing = 1
state_number Running = 2

-- how far a handover is, by its number
abbrev pub phase_number : Phase → ℕ
phase_number Offered = 0
phase_number Committed = 1

-- everybody is 0; the users of a list are 1 and the list
unfoldable pub access_field : Access → List ℕ
access_field All = u8_field 0
access_field (Users users) = u8_field 1 ++ many_field short_field users

-- ---- queues, complexes and devices

-- the seconds and the bytes, each of which may be left out
unfoldable pub limits_field : Limits → List ℕ
limits_field l = fields (opt_field u64_field l.cpu ∷ opt_field u64_field l.memory ∷ [])

-- a queue and its host
unfoldable pub dest_field : Dest → List ℕ
dest_field d = fields (short_field d.queue ∷ u8_field d.host.0 ∷ [])

-- a queue, but for its lists
unfoldable pub settings_field : QueueDef → List ℕ
settings_field q = fields (
    short_field q.name ∷ u8_field (kind_number q.kind) ∷ bool_field q.enabled ∷ bool_field q.started ∷ bool_field q.pipe_only
    ∷ u8_field q.priority ∷ u16_field q.run_limit ∷ opt_field u16_field q.user_limit ∷ limits_field q.limits ∷ []
    )

-- a queue: its settings, who may use it, its destinations, its devices
unfoldable pub queue_field : QueueDef → List ℕ
queue_field q = fields (
    settings_field q ∷ access_field q.access ∷ many_field dest_field q.dests ∷ many_field short_field q.devices ∷ []
    )

-- a complex: its name, its limit, its queues
unfoldable pub complex_field : ComplexDef → List ℕ
complex_field c = fields (short_field c.name ∷ u16_field c.limit ∷ many_field short_field c.queues ∷ [])

-- a device: its name, its forms, whether it is enabled
unfoldable pub device_field : DeviceDef → List ℕ
device_field d = fields (short_field d.name ∷ short_field d.forms ∷ bool_field d.enabled ∷ [])

-- ---- requests

-- a destination that refused, and the number of the refusal
unfoldable pub refused_field : Refused → List ℕ
refused_field r = fields (dest_field r.dest ∷ u8_field r.cause ∷ [])

-- where a request stands: its queue, how far it is, who holds it, its arrival, its counts, its
-- device
unfoldable pub course_field : Row Extent → List ℕ
course_field r = fields (
    short_field r.queue ∷ u8_field (state_number r.state) ∷ u8_field (hold_number r.hold) ∷ u64_field r.arrival ∷ bool_field r.doomed
    ∷ u16_field r.starts ∷ u16_field r.lost ∷ u8_field r.hops ∷ opt_field short_field r.device ∷ []
    )

-- a request: its number, its job, where it stands, who refused it, its script
unfoldable pub row_field : Row Extent → List ℕ
row_field r = fields (id_field r.id ∷ job_field r.job ∷ course_field r ∷ many_field refused_field r.refused ∷ extent_field r.script ∷ [])

-- ---- dealings with other hosts, and files

-- a handover to another host
unfoldable pub hand_field : Hand → List ℕ
hand_field h = fields (
    u8_field h.peer.0 ∷ u64_field h.number ∷ id_field h.id ∷ short_field h.queue ∷ u64_field h.since ∷ u8_field (phase_number h.phase) ∷ []
    )

-- a request that another host has offered
unfoldable pub promise_field : Promise Extent → List ℕ
promise_field p = fields (u8_field p.peer.0 ∷ u64_field p.number ∷ row_field p.row ∷ [])

-- what is known of another host
unfoldable pub peer_field : Peer → List ℕ
peer_field p = fields (
    u64_field p.next ∷ u64_field p.floor ∷ many_field u64_field p.closed ∷ u64_field p.wait ∷ u64_field p.stage_next ∷ u64_field p.stage_got
    ∷ []
    )

-- the number up to which an old peer had each handover closed: the first of these, 0 where there is
-- none
abbrev pub closed_up_to : List ℕ → ℕ
closed_up_to [] = 0
closed_up_to (n ∷ ns) = n

-- the same by the spelling of version 1, which has one closed number, and each below it is closed
unfoldable pub old_peer_field : Peer → List ℕ
old_peer_field p = fields (
    u64_field p.next ∷ u64_field (closed_up_to p.closed) ∷ u64_field p.wait ∷ u64_field p.stage_next ∷ u64_field p.stage_got ∷ []
    )

-- an output on its way
unfoldable pub stage_field : Stage Extent → List ℕ
stage_field t = fields (u8_field t.peer.0 ∷ u64_field t.number ∷ short_field t.path ∷ extent_field t.bytes ∷ [])

-- an output that is to be written into a file
unfoldable pub file_field : FileOut Extent → List ℕ
file_field f = fields (u64_field f.number ∷ short_field f.path ∷ extent_field f.bytes ∷ [])

-- ---- a whole state, in five parts

-- who the host is, and its queues, complexes and devices
unfoldable pub site_part : State Extent → List ℕ
site_part s = fields (
    u8_field s.me.0 ∷ many_field short_field s.site ∷ many_field queue_field s.queues ∷ many_field complex_field s.complexes
    ∷ many_field device_field s.devices ∷ []
    )

-- its requests, handovers and promises
unfoldable pub request_part : State Extent → List ℕ
request_part s = fields (many_field row_field s.rows ∷ many_field hand_field s.hands ∷ many_field promise_field s.promises ∷ [])

-- its outputs for other hosts, its files, and who may change it
unfoldable pub dealing_part : State Extent → List ℕ
dealing_part s = fields (
    many_field stage_field s.stages ∷ many_field file_field s.files ∷ many_field short_field s.managers ∷ many_field short_field s.operators ∷ []
    )

-- its parameters and counters
unfoldable pub counter_part : State Extent → List ℕ
counter_part s = fields (
    opt_field short_field s.default_queue ∷ u16_field s.global_limit ∷ u64_field s.patience ∷ u64_field s.retry_wait ∷ u32_field s.seq
    ∷ u64_field s.arrivals ∷ u64_field s.file_next ∷ []
    )

-- a state: its parts in this order, of which the third is that field of each peer, and nothing else
unfoldable pub state_by : (Peer → List ℕ) → State Extent → List ℕ
state_by peer s = fields (site_part s ∷ request_part s ∷ many_field peer s.peers ∷ dealing_part s ∷ counter_part s ∷ [])

-- a state
abbrev pub state_field : State Extent → List ℕ
state_field s = state_by peer_field s

-- a state by the spelling of version 1
abbrev pub old_state_field : State Extent → List ℕ
old_state_field s = state_by old_peer_field s
