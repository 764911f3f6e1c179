-- What bytes are read as: the parts of a state one behind the other, then the state, where it is
-- sound and nothing follows.
use Rattle.std.specs.Prelude.{ℕ, List, if◌then◌else◌, Option, Ok, Err}
use Rattle.nqs_base.specs.declared.extent.Extent.{Extent}
use Rattle.nqs_state.specs.State.{State}
use Rattle.nqs_records.specs.declared.fault.RecordFault.TheVariants.{BadField}
use Rattle.nqs_records.specs.Reading.{◌>>=◌, Read, Reading, mapped, both, alone}
use Rattle.nqs_records.specs.Fields.{u16_at, u32_at, u64_at, opt_at, name_at}
use Rattle.nqs_records.specs.Parts.{host_at}
use Rattle.nqs_types.specs.declared.request.Peer.{Peer}
use Rattle.nqs_snapshot.specs.declared.parts.SitePart.{SitePart}
use Rattle.nqs_snapshot.specs.declared.parts.RequestPart.{RequestPart}
use Rattle.nqs_snapshot.specs.declared.parts.DealingPart.{DealingPart}
use Rattle.nqs_snapshot.specs.declared.parts.CounterPart.{CounterPart}
use Rattle.nqs_snapshot.specs.declared.parts.Parts.{Parts}
use Rattle.nqs_snapshot.specs.Readings.{many_at, queue_at, complex_at, device_at, row_at, hand_at, promise_at, peer_at, old_peer_at, stage_at, file_at}
use Rattle.nqs_snapshot.specs.Sound.{is_sound}

-- who the host is, the hosts of its site, and its queues, complexes and devices
unfoldable pub site_at : Reading SitePart
site_at = mapped (λ v. record { me = v.0; site = v.1.0; queues = v.1.1.0; complexes = v.1.1.1.0; devices = v.1.1.1.1 }) (
    both host_at λ _. both (many_at name_at) λ _. both (many_at queue_at) λ _. both (many_at complex_at) λ _. many_at device_at
    )

-- its requests, handovers and promises
unfoldable pub requests_at : Reading RequestPart
requests_at = mapped (λ v. record { rows = v.0; hands = v.1.0; promises = v.1.1 }) (
    both (many_at row_at) λ _. both (many_at hand_at) λ _. many_at promise_at
    )

-- its stages and files, its managers and operators
unfoldable pub dealings_at : Reading DealingPart
dealings_at = mapped (λ v. record { stages = v.0; files = v.1.0; managers = v.1.1.0; operators = v.1.1.1 }) (
    both (many_at stage_at) λ _. both (many_at file_at) λ _. both (many_at name_at) λ _. many_at name_at
    )

-- the values of the parameters and counters, in order
abbrev pub CounterFields : Type 0
CounterFields = Option (List ℕ) × (ℕ × (ℕ × (ℕ × (ℕ × (ℕ × ℕ)))))

-- the parameters and counters that these values make
abbrev pub counters_of : CounterFields → CounterPart
counters_of v = record {
  default_queue = v.0;
  global_limit = v.1.0;
  patience = v.1.1.0;
  retry_wait = v.1.1.1.0;
  seq = v.1.1.1.1.0;
  arrivals = v.1.1.1.1.1.0;
  file_next = v.1.1.1.1.1.1;
}

-- its parameters and counters
unfoldable pub counters_at : Reading CounterPart
counters_at = mapped counters_of (
    both (opt_at name_at) λ _. both u16_at λ _. both u64_at λ _. both u64_at λ _. both u32_at λ _. both u64_at λ _. u64_at
    )

-- all parts of a state, in order, with what it knows of each host as that is read
unfoldable pub parts_at : Reading Peer → Reading Parts
parts_at peer = mapped (λ v. record { site = v.0; requests = v.1.0; peers = v.1.1.0; dealings = v.1.1.1.0; counters = v.1.1.1.1 }) (
    both site_at λ _. both requests_at λ _. both (many_at peer) λ _. both dealings_at λ _. counters_at
    )

-- the state of these parts
abbrev pub state_of : Parts → State Extent
state_of p = record {
  me = p.site.me;
  site = p.site.site;
  queues = p.site.queues;
  complexes = p.site.complexes;
  devices = p.site.devices;
  rows = p.requests.rows;
  hands = p.requests.hands;
  promises = p.requests.promises;
  peers = p.peers;
  stages = p.dealings.stages;
  files = p.dealings.files;
  managers = p.dealings.managers;
  operators = p.dealings.operators;
  default_queue = p.counters.default_queue;
  global_limit = p.counters.global_limit;
  patience = p.counters.patience;
  retry_wait = p.counters.retry_wait;
  seq = p.counters.seq;
  arrivals = p.counters.arrivals;
  file_next = p.counters.file_next;
}

-- a state where it is sound, and else its first place is at fault
abbrev pub or_bad : State Extent → Read (State Extent)
or_bad s = if is_sound s then Ok s else Err (BadField 0)

-- the parts that stand in the whole list
unfoldable pub whole_of : Reading Peer → List ℕ → Read Parts
whole_of peer bytes = alone (parts_at peer) bytes 0

-- the whole list as one state, with what it knows of each host as that is read
unfoldable pub state_read_by : Reading Peer → List ℕ → Read (State Extent)
state_read_by peer bytes = do
  parts ← whole_of peer bytes
  or_bad (state_of parts)

-- the whole list as one state
abbrev pub snapshot_of : List ℕ → Read (State Extent)
snapshot_of bytes = state_read_by peer_at bytes

-- the whole list as one state by the spelling of version 1
abbrev pub old_snapshot_of : List ℕ → Read (State Extent)
old_snapshot_of bytes = state_read_by old_peer_at bytes
